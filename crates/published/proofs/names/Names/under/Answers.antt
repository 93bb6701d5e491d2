use Rattle.std.proofs.Common.{◌∷◌, [], ◌++◌, sym, ap, ◌∙◌}
use Rattle.std.specs.List.{take_while}
use Rattle.prefixes.specs.Under.{begins_with}
use Rattle.published.specs.Private.Names.{names_under}
use Rattle.published.proofs.UnderNames.{all_left, one_found, no_more, none_left}
use Rattle.published.proofs.names.Names.under.Goals as goal

pub loop-name-init : goal.loop-name-init
loop-name-init c =
    let text = c.args.prefix.now in
    let left = c.into_iter-name-iterator.result in
    all_left text c.args.self.now.names.keys left c.range-name-items.ensures.ordered
    (c.into_iter-name-iterator.ensures.into_iter_gives ∙ c.range-name-items.ensures.between tt)
    ∙ ap (λ found. found ++ take_while (begins_with text) left) (sym c.new-found.ensures.items)

pub loop-name-preserved : goal.loop-name-preserved
loop-name-preserved c =
    let text = c.args.prefix.now in
    let found = c.loop-name.found.items in
    one_found text (names_under c.args.self.now text) found c.push.new.self.items c.loop-name.name-iterator c.next.new.self c.in-Some.name.now
    c.in-Some.ensures.steps (sym c.if-not-begins.ensures) (c.in_ok-push.ensures.items ∙ ap (λ name. found ++ name ∷ []) c.in_ok-share.ensures)
    c.loop-name.invariant

pub returns-then-not-begins : goal.returns-then-not-begins
returns-then-not-begins c =
    let text = c.args.prefix.now in
    no_more text (names_under c.args.self.now text) c.loop-name.found.items c.loop-name.name-iterator c.next.new.self c.in-Some.name.now
    c.in-Some.ensures.steps (sym c.if-not-begins.ensures) c.loop-name.invariant

pub returns : goal.returns
returns c =
    let text = c.args.prefix.now in
    none_left text (names_under c.args.self.now text) c.loop-name.found.items c.loop-name.name-iterator c.in-None.ensures.steps.0 c.loop-name.invariant

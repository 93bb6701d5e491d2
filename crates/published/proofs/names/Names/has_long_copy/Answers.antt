use Rattle.std.proofs.Common.{length, sym, ap, ◌∙◌}
use Rattle.std.specs.Prelude.{nat_lt}
use Rattle.std.specs.List.{list_any}
use Rattle.documents.specs.Documents.{renamed}
use Rattle.published.specs.Private.Names.{has_long_copy}
use Rattle.published.proofs.UnderNames.{all_left}
use Rattle.published.proofs.CopyNames.{any_next, any_here, any_stop, any_end}
use Rattle.published.proofs.names.Names.has_long_copy.Goals as goal

pub loop-name-init : goal.loop-name-init
loop-name-init c =
    let from = c.args.from.now in
    let to = c.args.to.now in
    let most = c.args.most in
    ap (list_any (λ name. nat_lt most (length (renamed from to name))))
    (all_left from c.args.self.now.names.keys c.into_iter-name-iterator.result c.range-name-items.ensures.ordered
    (c.into_iter-name-iterator.ensures.into_iter_gives ∙ c.range-name-items.ensures.between tt))

pub returns-then-not-begins : goal.returns-then-not-begins
returns-then-not-begins c =
    let from = c.args.from.now in
    let to = c.args.to.now in
    let most = c.args.most in
    any_stop from (λ name. nat_lt most (length (renamed from to name))) (has_long_copy c.args.self.now most from to) c.loop-name.name-iterator
    c.next.new.self c.in-Some.name.now c.in-Some.ensures.steps c.loop-name.invariant (sym c.if-not-begins.ensures)

pub returns-then-is_long_copy : goal.returns-then-is_long_copy
returns-then-is_long_copy c =
    let from = c.args.from.now in
    let to = c.args.to.now in
    let most = c.args.most in
    any_here from (λ name. nat_lt most (length (renamed from to name))) (has_long_copy c.args.self.now most from to) c.loop-name.name-iterator
    c.next.new.self c.in-Some.name.now c.in-Some.ensures.steps c.loop-name.invariant (sym c.if-not-begins.ensures) (sym c.if-is_long_copy.ensures)

pub loop-name-preserved : goal.loop-name-preserved
loop-name-preserved c =
    let from = c.args.from.now in
    let to = c.args.to.now in
    let most = c.args.most in
    any_next from (λ name. nat_lt most (length (renamed from to name))) (has_long_copy c.args.self.now most from to) c.loop-name.name-iterator
    c.next.new.self c.in-Some.name.now c.in-Some.ensures.steps c.loop-name.invariant (sym c.if-not-begins.ensures) (sym c.if-is_long_copy.ensures)

pub returns : goal.returns
returns c =
    let from = c.args.from.now in
    let to = c.args.to.now in
    let most = c.args.most in
    any_end from (λ name. nat_lt most (length (renamed from to name))) (has_long_copy c.args.self.now most from to) c.loop-name.name-iterator
    c.in-None.ensures.steps.0 c.loop-name.invariant

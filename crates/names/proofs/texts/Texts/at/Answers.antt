use Rattle.std.proofs.Common.{◌≡◌, ◌-◌, ◌<◌, ◌∷◌, [], length, get_or, take, drop, arith, ap, sym, ◌∙◌}
use Rattle.std.proofs.lemmas.List.{get_or_default}
use Rattle.names.proofs.TextLemmas.{texts_inside, part-get, part_order, part_inside}
use Rattle.names.proofs.texts.Texts.at.Goals as goal
use Rattle.names.proofs.texts.Texts.at.Goals.{After-deref, After-deref-2}

inside : (c : After-deref) → c.args.at < length c.self.inside.ends.items
inside c = texts_inside c.self.inside.text.items c.self.inside.ends.items c.args.self.now c.args.at c.self.view_is c.requires

to_is : (c : After-deref-2) → c.args.at < length c.self.inside.ends.items → c.index.result.now ≡ get_or c.self.inside.ends.items c.args.at 0
to_is c within = c.index.ensures ∙ get_or_default c.self.inside.ends.items c.args.at c.index.result.now 0 within

from_is : (c : After-deref-2) → c.start-from.result ≡ get_or (0 ∷ c.self.inside.ends.items) c.args.at 0
from_is c = c.start-from.ensures ∙ ap (λ es. get_or (0 ∷ es) c.args.at 0) c.deref.ensures.value

pub start-from-requires : goal.start-from-requires
start-from-requires c = let within = inside c in omega (arith, within, ap length c.deref.ensures.value)

pub index-requires : goal.index-requires
index-requires c =
    let within : c.args.at < length c.self.inside.ends.items =
    texts_inside c.self.inside.text.items c.self.inside.ends.items c.args.self.now c.args.at c.self.view_is c.requires in
    omega (arith, within, c.self.inside.ends.ok.0)

pub piece-requires : goal.piece-requires
piece-requires c =
    let ends = c.self.inside.ends.items in
    let within : c.args.at < length ends = texts_inside c.self.inside.text.items ends c.args.self.now c.args.at c.self.view_is c.requires in
    let to : c.index.result.now ≡ get_or ends c.args.at 0 = to_is c within in
    let from : c.start-from.result ≡ get_or (0 ∷ ends) c.args.at 0 = from_is c in
    let order = part_order (length c.self.inside.text.items) 0 ends c.args.at c.self.invariant within in
    let last = part_inside (length c.self.inside.text.items) 0 ends c.args.at c.self.invariant within in
    record {
      order = omega (arith, from, to, order);
      inside = omega (arith, to, last, ap length c.deref-2.ensures.value);
    }

pub returns : goal.returns
returns c =
    let ends = c.self.inside.ends.items in
    let text = c.self.inside.text.items in
    let within : c.args.at < length ends = texts_inside text ends c.args.self.now c.args.at c.self.view_is c.requires in
    let to : c.index.result.now ≡ get_or ends c.args.at 0 = c.index.ensures ∙ get_or_default ends c.args.at c.index.result.now 0 within in
    let from : c.start-from.result ≡ get_or (0 ∷ ends) c.args.at 0 = c.start-from.ensures ∙ ap (λ es. get_or (0 ∷ es) c.args.at 0) c.deref.ensures.value in
    c.piece.ensures
    ∙ (ap (λ t. take (c.index.result.now - c.start-from.result) (drop c.start-from.result t)) c.deref-2.ensures.value
    ∙ (ap (λ n. take (n - c.start-from.result) (drop c.start-from.result text)) to
    ∙ (ap (λ n. take (get_or ends c.args.at 0 - n) (drop n text)) from
    ∙ (sym (part-get text 0 ends c.args.at within) ∙ ap (λ ts. get_or ts c.args.at []) c.self.view_is))))

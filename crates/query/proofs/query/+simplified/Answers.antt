use Rattle.std.proofs.Common.{Some, ◌+◌, ◌∷◌, map, drop, ap, sym, ◌∙◌}
use Rattle.std.proofs.lemmas.List.{drop_more, drop_all}
use Rattle.std.proofs.lemmas.Result.{IfOk-weaker}
use Rattle.query.proofs.Forms.{formula_of-Any, formula_of-None, formula_of-Has, formula_of-Pairs, formula_of-And, formula_of-Or}
use Rattle.query.specs.Pairs.{texts_in}
use Rattle.query.specs.Query.{formula_of, always, never, has, texts}
use Rattle.query.proofs.QueryLemmas.{simple_itself, simple_all, simple_one, IsJoinedSoFar-none, IsJoinedSoFar-more, IsJoinedSoFar-all}
use Rattle.query.proofs.query.+simplified.Goals as goal

pub simplified-returns-in-Any : goal.simplified-returns-in-Any
simplified-returns-in-Any t c = rw (c.in-Any.is, formula_of-Any) (simple_itself always tt)

pub simplified-returns-in-None : goal.simplified-returns-in-None
simplified-returns-in-None t c = rw (c.in-None.is, formula_of-None) (simple_itself never tt)

pub simplified-returns-in-Has : goal.simplified-returns-in-Has
simplified-returns-in-Has t c = rw (c.in-Has.is, formula_of-Has c.in-Has.trigram) (simple_itself (has c.in-Has.trigram) tt)

pub simplified-returns-in-And : goal.simplified-returns-in-And
simplified-returns-in-And t c =
    rw (c.in-And.is, formula_of-And c.in-And.members)
    (IfOk-weaker c.all_simplified.result _ _
    (λ whole h. simple_all (map formula_of c.in-And.members.items) (formula_of whole) (rw c.as_slice.ensures.value at h))
    c.all_simplified.ensures)

pub simplified-returns-in-Or : goal.simplified-returns-in-Or
simplified-returns-in-Or t c =
    rw (c.in-Or.is, formula_of-Or c.in-Or.members)
    (IfOk-weaker c.all_simplified-in-Or.result _ _
    (λ whole h. simple_one (map formula_of c.in-Or.members.items) (formula_of whole) (rw c.as_slice-in-Or.ensures.value at h))
    c.all_simplified-in-Or.ensures)

pub all_simplified-loop-member-init : goal.all_simplified-loop-member-init
all_simplified-loop-member-init t c =
    IsJoinedSoFar-none c.args.connective (map formula_of c.args.members.now) (formula_of c.constant-whole.result)
    (c.constant-whole.ensures ∙ ap Some c.idle.ensures)

pub all_simplified-loop-member-preserved : goal.all_simplified-loop-member-preserved
all_simplified-loop-member-preserved t c =
    let rest =
    ap (map formula_of) (drop_more c.args.members.now c.loop-member.member-index c.member-item.result c.loop-member-test.true)
    ∙ ap (λ q. formula_of q ∷ map formula_of (drop (c.loop-member.member-index + 1) c.args.members.now)) (sym c.member-item.is) in
    IsJoinedSoFar-more c.args.connective (map formula_of c.args.members.now)
    (map formula_of (drop (c.loop-member.member-index + 1) c.args.members.now)) (formula_of c.loop-member.whole)
    (formula_of c.member-item.result) (formula_of c.in_ok-simplified.field-0) (formula_of c.in_ok-whole.whole)
    (rw rest at c.loop-member.invariant) c.in_ok-simplified.ensures c.in_ok-whole.ensures

pub all_simplified-returns : goal.all_simplified-returns
all_simplified-returns t c =
    let rest = ap (map formula_of) (drop_all c.loop-member.member-index c.args.members.now c.loop-member-test.false) in
    IsJoinedSoFar-all c.args.connective (map formula_of c.args.members.now) (formula_of c.loop-member.whole) (rw rest at c.loop-member.invariant)

pub simplified-returns-in_ok-new-in-Pairs : goal.simplified-returns-in_ok-new-in-Pairs
simplified-returns-in_ok-new-in-Pairs t c =
    let is = formula_of-Pairs c.in_ok-new-in-Pairs.field-0
    ∙ ap texts (ap texts_in c.in_ok-new-in-Pairs.ensures.ok ∙ c.in_ok-copy-in-Pairs.ensures ∙ ap texts_in c.deref.ensures) in
    rw (c.in-Pairs.is, formula_of-Pairs c.in-Pairs.pairs, is) (simple_itself (texts (texts_in c.in-Pairs.pairs.value)) tt)

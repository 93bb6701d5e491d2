use Rattle.std.proofs.Common.{sym, ◌∙◌, arith, length, inl, inr, ◌≡◌}
use Rattle.std.proofs.lemmas.Bool.{false≢true}
use Rattle.std.proofs.lemmas.Bool.Decides.{nat_tests}
use Rattle.segments.proofs.Searching.{sought_begins, sought_there, sought_absent, sought_ends}
use Rattle.segments.proofs.common.common.Goals as goal
use Rattle.segments.proofs.common.common.Goals.{then-loop-at-test+else-not-is_empty, else-loop-at-test}

pub loop-at-init : goal.loop-at-init
loop-at-init g c = rw c.in_ok-found.ensures.items (sought_begins c.args.places.now c.args.bytes.now c.requires.spelled)

pub loop-at-preserved-in_ok-push : goal.loop-at-preserved-in_ok-push
loop-at-preserved-in_ok-push g c =
    let l = c.loop-at in
    let first = c.first_number-number in
    let there = c.is_at.ensures.0 c.if-is_at.true in
    rw c.in_ok-push.ensures.items
    (sought_there c.args.places.now c.args.bytes.now l.before l.rest.now l.at l.found.items first.result.0 first.result.1.now c.reach-next.result
    c.requires.rising l.invariant first.ensures c.reach-next.ensures.from c.reach-next.ensures.reached there.0 there.1)

pub loop-at-preserved : goal.loop-at-preserved
loop-at-preserved g c =
    let l = c.loop-at in
    let first = c.first_number-number in
    sought_absent c.args.places.now c.args.bytes.now l.before l.rest.now l.at l.found.items first.result.0 first.result.1.now c.reach-next.result
    c.requires.rising l.invariant first.ensures c.reach-next.ensures.from c.reach-next.ensures.reached
    (λ low is. false≢true (sym c.if-is_at.false ∙ c.is_at.ensures.1 (low, is)))

pub returns-clause-common : goal.returns-clause-common
returns-clause-common g c =
    let l = c.loop-at in
    elim c.loop-at-test.branch [
      | then-loop-at-test+else-not-is_empty w ↦
          let none : length l.rest.now ≡ 0 = grind (arith, nat_tests, w.is_empty.ensures, w.if-not-is_empty.false) in
          sought_ends c.args.places.now c.args.bytes.now l.before l.rest.now l.at l.found.items l.invariant (inr none)
      | else-loop-at-test w ↦
          sought_ends c.args.places.now c.args.bytes.now l.before l.rest.now l.at l.found.items l.invariant (inl (omega (arith, w.loop-at-test.false)))
    ]

use Rattle.std.proofs.Common.{ℕ, Bool, ◌<◌, get_or, false, length, sym, ap, ◌∙◌}
use Rattle.std.specs.Prelude.{filter}
use Rattle.segments.proofs.BitLemmas.{has_below}
use Rattle.segments.proofs.Members.{All-has}
use Rattle.segments.proofs.Searching.{numbers_below-none, below_there, below_absent}
use Rattle.segments.specs.Private.Below.{numbers_below}
use Rattle.segments.proofs.within.marked_below.Goals as goal
use Rattle.segments.proofs.within.marked_below.Goals.{then-marks-place+in_ok-push, else-marks-place}

pub loop-place-init : goal.loop-place-init
loop-place-init g c = c.new-marked.ensures.items ∙ sym (ap (filter (λ p. get_or c.args.marks.now p false)) numbers_below-none)

pub bounds-marks-place : goal.bounds-marks-place
bounds-marks-place g c =
    All-has (λ p. p < length c.args.marks.now) (numbers_below c.args.count) c.loop-place.place c.requires.fit
    (has_below c.args.count c.loop-place.place c.loop-place-test.true)

pub loop-place-preserved : goal.loop-place-preserved
loop-place-preserved g c =
    let test : ℕ → Bool = λ p. get_or c.args.marks.now p false in
    elim c.if-marks-place.branch [
      | then-marks-place+in_ok-push w ↦
          rw (w.marked-is, w.in_ok-push.ensures.items) (below_there test c.loop-place.place c.loop-place.marked.items c.loop-place.invariant w.if-marks-place.true)
      | else-marks-place w ↦ rw w.marked-is (below_absent test c.loop-place.place c.loop-place.marked.items c.loop-place.invariant w.if-marks-place.false)
    ]

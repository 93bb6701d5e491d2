use Rattle.std.proofs.Common.{◌≡◌, get_or}
use Rattle.std.specs.Prelude.{None, Some}
use Rattle.segments.proofs.Joined.{targets-some, targets-none}
use Rattle.segments.proofs.join.push_targets.Goals as goal
use Rattle.segments.proofs.join.push_targets.Goals.{in-Some+in_ok-push, in_default}

pub loop-place-preserved : goal.loop-place-preserved
loop-place-preserved c =
    elim c.match-targets-place.branch [
      | in-Some+in_ok-push w ↦
          let is : get_or c.args.targets.now (get_or c.args.places.now c.loop-place.place-index 0) None ≡ Some w.in-Some.target = w.in-Some.is in
          rw (w.to-is, w.in_ok-push.ensures.items, c.loop-place.invariant)
          (targets-some c.args.targets.now c.args.places.now c.loop-place.place-index c.args.to.now.items c.loop-place-test.true w.in-Some.target is)
      | in_default w ↦
          rw (w.to-is, c.loop-place.invariant)
          (targets-none c.args.targets.now c.args.places.now c.loop-place.place-index c.args.to.now.items c.loop-place-test.true w.in_default.is)
    ]

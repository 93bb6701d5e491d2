use Rattle.segments.proofs.Joining.{targets_none, targets_more}
use Rattle.segments.proofs.merge.targets.Goals as goal

pub loop-number-init : goal.loop-number-init
loop-number-init c = rw c.in_ok-targets.ensures.items (targets_none c.args.numbers.now)

pub loop-number-preserved : goal.loop-number-preserved
loop-number-preserved c =
    rw c.in_ok-push.ensures.items
    (targets_more c.args.from.now c.args.numbers.now c.loop-number.targets.items c.loop-number.number-index c.place_among.result c.loop-number-test.true
    c.loop-number.invariant c.place_among.ensures.place c.place_among.ensures.within)

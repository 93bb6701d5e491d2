use Rattle.std.proofs.Common.{refl}
use Rattle.simulation.proofs.Passing as passing
use Rattle.simulation.proofs.run.passed_on.Goals as goal

pub loop-next-init : goal.loop-next-init
loop-next-init c = passing.passed_first c.args.word c.args.passed c.args.stride

pub loop-next-preserved : goal.loop-next-preserved
loop-next-preserved c =
    passing.passed_more c.args.word c.args.passed c.args.stride c.loop-next.found c.loop-next.on c.loop-next.distance c.moved_down.result
    c.either-next.result c.moved_down-in-loop-next.result c.both-on.result c.loop-next.invariant c.moved_down.ensures
    (passing.joined c.loop-next.found c.moved_down.result c.loop-next.on c.both.result c.either-next.result c.either-next.ensures c.both.ensures)
    c.moved_down-in-loop-next.ensures c.both-on.ensures

pub returns : goal.returns
returns c =
    passing.passed_last c.args.word c.args.passed c.args.stride c.loop-next.found c.loop-next.on c.loop-next.distance c.ranges.word.fits
    c.loop-next.invariant (c.loop-next-test.ensures.off refl)

pub returns-then-next-found : goal.returns-then-next-found
returns-then-next-found c =
    passing.passed_same c.args.word c.args.passed c.args.stride c.loop-next.found c.loop-next.on c.loop-next.distance c.moved_down.result
    c.either-next.result c.loop-next.invariant c.moved_down.ensures
    (passing.joined c.loop-next.found c.moved_down.result c.loop-next.on c.both.result c.either-next.result c.either-next.ensures c.both.ensures)
    c.if-next-found.true

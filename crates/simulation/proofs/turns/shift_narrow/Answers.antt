use Rattle.std.proofs.Common.{arith}
use Rattle.simulation.proofs.Moving as moving
use Rattle.simulation.proofs.turns.shift_narrow.Goals as goal

pub loop-i-init : goal.loop-i-init
loop-i-init c =
    moving.moving_first c.args.stride c.args.entered.now c.args.read.now c.args.out.now c.lowest_bits-carried.result c.requires.stride.1
    c.lowest_bits-carried.ensures.low c.lowest_bits-carried.ensures.high

pub loop-i-preserved : goal.loop-i-preserved
loop-i-preserved c =
    moving.moving_more c.args.stride c.args.entered.now c.args.read.now c.loop-i.out c.loop-i.i c.loop-i.carried c.moved_in.result
    c.highest_bits-carried.result (omega arith) c.requires.stride.1 c.loop-i.invariant c.moved_in.ensures c.highest_bits-carried.ensures.low c.highest_bits-carried.ensures.high

pub moved_in-requires-clause-high : goal.moved_in-requires-clause-high
moved_in-requires-clause-high c = c.loop-i.invariant.high

pub returns : goal.returns
returns c = λ k low. c.loop-i.invariant.written k (omega arith)

use Rattle.std.proofs.Common.{arith}
use Rattle.simulation.proofs.Moving as moving
use Rattle.simulation.proofs.turns.shift_wide.Goals as goal

pub loop-i-init : goal.loop-i-init
loop-i-init c = moving.wide_first c.args.entered.now c.args.read.now c.copy.new.to c.copy.ensures

pub loop-i-preserved : goal.loop-i-preserved
loop-i-preserved c = moving.wide_more c.args.entered.now c.args.read.now c.loop-i.out c.loop-i.i (omega arith) (omega arith) c.loop-i.invariant

pub returns : goal.returns
returns c = λ k low. c.loop-i.invariant k (omega arith)

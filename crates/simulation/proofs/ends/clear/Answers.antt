use Rattle.std.proofs.Common.{arith}
use Rattle.simulation.proofs.Lines.{clear_all}
use Rattle.simulation.proofs.ends.clear.Goals as goal

pub returns : goal.returns
returns c = clear_all c.loop-i.cells (λ k low. c.loop-i.invariant k (omega arith))

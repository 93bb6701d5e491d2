use Rattle.simulation.specs.Pending.{at}
use Rattle.simulation.specs.Private.Words.{AreWritten}
use Rattle.simulation.proofs.cells.copy.Given as goal

abbrev pub invariant-loop-i : goal.invariant-loop-i
invariant-loop-i l = AreWritten l.to l.i (at l.from)

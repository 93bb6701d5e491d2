use Rattle.std.proofs.Common.{◌&&◌, ◌||◌}
use Rattle.simulation.specs.Pending.{at}
use Rattle.simulation.specs.Private.Words.{AreWritten}
use Rattle.simulation.proofs.cells.either_if.Given as goal

abbrev pub invariant-loop-i : goal.invariant-loop-i
invariant-loop-i l = AreWritten l.to l.i (λ k. at l.one k || (l.too && at l.other k))

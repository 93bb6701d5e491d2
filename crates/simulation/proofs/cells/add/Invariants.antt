use Rattle.std.proofs.Common.{◌||◌}
use Rattle.simulation.specs.Pending.{at}
use Rattle.simulation.specs.Private.Words.{AreChanged}
use Rattle.simulation.proofs.cells.add.Given as goal

abbrev pub invariant-loop-i : goal.invariant-loop-i
invariant-loop-i l = AreChanged l.initial.to l.to l.i (λ k. at l.initial.to k || at l.more k)

use Rattle.std.proofs.Common.{◌&&◌, ◌||◌, nat_le}
use Rattle.simulation.specs.Pending.{at}
use Rattle.simulation.specs.Private.Words.{AreChanged}
use Rattle.simulation.proofs.turns.add_from.Given as goal

abbrev pub invariant-loop-i : goal.invariant-loop-i
invariant-loop-i l = AreChanged l.initial.to l.to l.i (λ k. at l.initial.to k || (nat_le l.from k && at l.more k))

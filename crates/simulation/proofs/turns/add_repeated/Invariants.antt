use Rattle.std.proofs.Common.{◌≡◌, ℕ, ◌&&◌, ◌||◌, nat_lt}
use Rattle.simulation.specs.Pending.{at}
use Rattle.simulation.specs.Private.Words.{repeated}
use Rattle.simulation.proofs.turns.add_repeated.Given as goal

abbrev pub invariant-loop-k : goal.invariant-loop-k
invariant-loop-k l = (j : ℕ) → at l.to j ≡ (at l.initial.to j || (nat_lt j l.k && repeated l.stride l.entered j))

use Rattle.std.proofs.Common.{ℕ, ◌≤◌}
use Rattle.simulation.specs.Private.Reading.{IsFreeGap}
use Rattle.simulation.proofs.gaps.first_gap.Given as goal

abbrev pub invariant-loop-at : goal.invariant-loop-at
invariant-loop-at l = (other : ℕ) → IsFreeGap l.gaps l.line l.whole_words other → l.at ≤ other

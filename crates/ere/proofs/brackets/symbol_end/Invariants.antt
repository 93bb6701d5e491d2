use Rattle.std.proofs.Common.{ℕ, ◌<◌, ◌≤◌}
use Rattle.ere.specs.Private.Reading.{IsSymbolEnd}
use Rattle.ere.proofs.brackets.symbol_end.Given as goal

abbrev pub invariant-loop-p : goal.invariant-loop-p
invariant-loop-p l = (k : ℕ) → l.start ≤ k → k < l.p → IsSymbolEnd l.mark l.text k → ⊥

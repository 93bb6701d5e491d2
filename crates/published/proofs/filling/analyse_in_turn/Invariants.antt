use Rattle.std.proofs.Common.{◌≡◌}
use Rattle.published.proofs.filling.analyse_in_turn.Given as goal

-- The operations stay as they are.
abbrev pub invariant-loop-at : goal.invariant-loop-at
invariant-loop-at l = l.operations ≡ l.fn.operations

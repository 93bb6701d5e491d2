use Rattle.std.proofs.Common.{◌≡◌, ◌<◌, ℕ, get_or}
use Rattle.matcher.proofs.positions.PositionsPositionSet.is_empty.Given as goal

abbrev pub invariant-loop-i : goal.invariant-loop-i
invariant-loop-i g l = (i : ℕ) → i < l.i → get_or l.self-inside.words i 0 ≡ 0

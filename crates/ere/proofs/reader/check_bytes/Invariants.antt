use Rattle.std.proofs.Common.{◌≢◌, ℕ, ◌<◌, get_or}
use Rattle.ere.proofs.reader.check_bytes.Given as goal

abbrev pub invariant-loop-i : goal.invariant-loop-i
invariant-loop-i l = (k d : ℕ) → k < l.i → (get_or l.pattern k d ≢ 0) × (get_or l.pattern k d ≢ 10)

use Rattle.std.proofs.Common.{◌≡◌, ◌<◌, ℕ, length, get_or}
use Rattle.segments.proofs.marks.clear_all.Given as goal

abbrev pub invariant-loop-byte : goal.invariant-loop-byte
invariant-loop-byte l = record {
  whole : length l.marks.items ≡ 2097152;
  none : (k : ℕ) → k < l.byte → get_or l.marks.items k 0 ≡ 0;
}

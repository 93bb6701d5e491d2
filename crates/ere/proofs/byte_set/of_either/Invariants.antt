use Rattle.std.proofs.Common.{◌≡◌, ℕ, ◌<◌, length, get_or, bit_or}
use Rattle.ere.proofs.byte_set.of_either.Given as goal

abbrev pub invariant-loop-i : goal.invariant-loop-i
invariant-loop-i l = record {
  whole : length l.words ≡ 4;
  each : (k : ℕ) → k < l.i → get_or l.words k 0 ≡ bit_or (get_or l.left k 0) (get_or l.right k 0);
}

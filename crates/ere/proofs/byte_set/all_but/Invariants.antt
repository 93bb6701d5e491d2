use Rattle.std.proofs.Common.{◌≡◌, ℕ, ◌<◌, not, length, get_or}
use Rattle.ere.specs.Bits.{has_bit}
use Rattle.ere.proofs.byte_set.all_but.Given as goal

abbrev pub invariant-loop-i : goal.invariant-loop-i
invariant-loop-i l = record {
  whole : length l.words ≡ 4;
  each : (k : ℕ) → k < l.i → (bit : ℕ) → bit < 64 → has_bit (get_or l.words k 0) bit ≡ not (has_bit (get_or l.others k 0) bit);
}

use Rattle.std.proofs.Common.{◌≤◌, ◌<◌, ◌+◌, ℕ, get_or, length}
use Rattle.posting.proofs.gaps.last_place.Given as goal

abbrev pub invariant-loop-place : goal.invariant-loop-place
invariant-loop-place l = record {
  inside : l.place < length l.bytes;
  high : (k : ℕ) → l.place ≤ k → k + 1 < length l.bytes → 128 ≤ get_or l.bytes k 0;
}

abbrev pub decreases-loop-place : goal.decreases-loop-place
decreases-loop-place l = l.place

use Rattle.std.proofs.Common.{◌≡◌, ◌≤◌, ◌<◌, ◌*◌, ℕ, get_or, take}
use Rattle.std.specs.List.{sum}
use Rattle.posting.proofs.gaps.sum_of_block.Given as goal

abbrev pub invariant-loop-i : goal.invariant-loop-i
invariant-loop-i l = record {
  total : l.total ≡ sum (take l.i l.bytes);
  small : l.total ≤ 255 * l.i;
  most : (k : ℕ) → k < l.i → get_or l.bytes k 0 ≤ l.most;
}

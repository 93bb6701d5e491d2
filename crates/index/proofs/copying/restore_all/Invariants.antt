use Rattle.std.proofs.Common.{◌≡◌, ◌≤◌, ℕ, List, take}
use Rattle.std.specs.Ordering.{nat_cmp}
use Rattle.std.specs.Cmp.Lexicographic.{slice_cmp}
use Rattle.std.specs.BTreeMap.{IsOrdered, btree_map_len, get}
use Rattle.index.specs.Private.Copying.{restored}
use Rattle.index.proofs.copying.restore_all.Given as goal

abbrev pub invariant-loop-at : goal.invariant-loop-at
invariant-loop-at l =
    ((q : List ℕ) → get (slice_cmp nat_cmp) l.numbers q ≡ restored (take l.at l.copies) q (get (slice_cmp nat_cmp) l.fn.numbers q))
    × IsOrdered (slice_cmp nat_cmp) l.numbers
    × (btree_map_len l.numbers ≤ btree_map_len l.fn.numbers)

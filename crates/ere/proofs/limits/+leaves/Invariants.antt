use Rattle.std.proofs.Common.{◌≡◌, map, drop, min}
use Rattle.ere.specs.Limits.{leaves_in}
use Rattle.ere.specs.Tree.{form, trees_of}
use Rattle.ere.proofs.limits.+leaves.Given as goal

abbrev pub invariant-capped_leaves_in-loop-i : goal.invariant-capped_leaves_in-loop-i
invariant-capped_leaves_in-loop-i l = l.sum ≡ min (leaves_in (trees_of (map form (drop l.i l.members)))) 4097

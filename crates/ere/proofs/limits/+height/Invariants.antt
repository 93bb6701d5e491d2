use Rattle.std.proofs.Common.{◌≡◌, map, drop, nat_le}
use Rattle.ere.specs.Limits.{highest}
use Rattle.ere.specs.Tree.{form, trees_of}
use Rattle.ere.proofs.limits.+height.Given as goal

abbrev pub invariant-are_low-loop-i : goal.invariant-are_low-loop-i
invariant-are_low-loop-i l = l.low ≡ nat_le (highest (trees_of (map form (drop l.i l.members)))) l.most

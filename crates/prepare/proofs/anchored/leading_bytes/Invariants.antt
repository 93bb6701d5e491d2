use Rattle.std.proofs.Common.{◌≡◌, ◌++◌, map, drop}
use Rattle.ere.specs.Tree.{form, trees_of}
use Rattle.prepare.specs.Anchored.{leading_bytes}
use Rattle.prepare.proofs.anchored.leading_bytes.Given as goal

abbrev pub invariant-loop-member : goal.invariant-loop-member
invariant-loop-member l =
    l.text.items ++ leading_bytes (trees_of (map form (drop l.member-index l.members))) ≡ leading_bytes (trees_of (map form l.members))

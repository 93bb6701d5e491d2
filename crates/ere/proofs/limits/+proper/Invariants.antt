use Rattle.std.proofs.Common.{◌↔◌, IsTrue, map, drop}
use Rattle.ere.specs.Limits.{AreProper}
use Rattle.ere.specs.Tree.{form, trees_of}
use Rattle.ere.proofs.limits.+proper.Given as goal

abbrev pub invariant-are_proper-loop-i : goal.invariant-are_proper-loop-i
invariant-are_proper-loop-i l = IsTrue l.proper ↔ AreProper (trees_of (map form (drop l.i l.members)))

use Rattle.std.proofs.Common.{map, drop}
use Rattle.std.proofs.Common.{◌++◌, List}
use Rattle.regex_hir.specs.Meaning.{meaning}
use Rattle.regex_hir.specs.Re.{Re}
use Rattle.ere.specs.Tree.{form, trees_of}
use Rattle.engine.specs.Translation.{StandForEach}
use Rattle.engine.proofs.translate.+translate.Given as goal

-- The patterns so far, followed by patterns that stand for the members that are left, stand for all members.
abbrev pub invariant-patterns_for-loop-member : goal.invariant-patterns_for-loop-member
invariant-patterns_for-loop-member l =
    (more : List Re) → StandForEach (trees_of (map form (drop l.member-index l.members))) more
    → StandForEach (trees_of (map form l.members)) (map meaning l.hirs.items ++ more)

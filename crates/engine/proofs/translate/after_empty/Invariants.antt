use Rattle.std.proofs.Common.{length, map}
use Rattle.ere.specs.Tree.{form, trees_of, cat}
use Rattle.engine.specs.SameLines.{HaveSameLines}
use Rattle.engine.proofs.translate.after_empty.Given as goal

-- What was left out so far can be empty.
abbrev pub invariant-loop-rest : goal.invariant-loop-rest
invariant-loop-rest l = HaveSameLines (cat (trees_of (map form l.members))) (cat (trees_of (map form l.rest)))

abbrev pub decreases-loop-rest : goal.decreases-loop-rest
decreases-loop-rest l = length l.rest

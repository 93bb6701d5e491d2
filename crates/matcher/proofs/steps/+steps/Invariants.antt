use Rattle.std.proofs.Common.{◌≡◌, map, drop, min}
use Rattle.ere.specs.Tree.{form, trees_of}
use Rattle.matcher.specs.Steps.{steps_in}
use Rattle.matcher.proofs.steps.+steps.Given as goal

abbrev pub invariant-capped_steps_in-loop-i : goal.invariant-capped_steps_in-loop-i
invariant-capped_steps_in-loop-i l = l.sum ≡ min (steps_in (trees_of (map form (drop l.i l.members)))) 30001

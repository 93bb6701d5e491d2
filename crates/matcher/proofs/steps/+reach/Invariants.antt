use Rattle.std.proofs.Common.{◌≡◌, map, drop}
use Rattle.ere.specs.Tree.{form, trees_of}
use Rattle.matcher.specs.Steps.{some_go_far}
use Rattle.matcher.proofs.steps.+reach.Given as goal

abbrev pub invariant-some_go_far-loop-i : goal.invariant-some_go_far-loop-i
invariant-some_go_far-loop-i l = l.found ≡ some_go_far (trees_of (map form (drop l.i l.members)))

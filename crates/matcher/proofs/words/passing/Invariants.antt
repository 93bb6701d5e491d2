use Rattle.std.proofs.Common.{◌≤◌}
use Rattle.matcher.specs.Private.Moving.{IsPassingFrom}
use Rattle.matcher.proofs.words.passing.Given as goal

abbrev pub invariant-loop-from : goal.invariant-loop-from
invariant-loop-from l = record {
  within : l.from ≤ l.end;
  found : IsPassingFrom l.members l.line l.passing l.base l.from;
}

abbrev pub decreases-loop-from : goal.decreases-loop-from
decreases-loop-from l = l.from

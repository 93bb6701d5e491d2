use Rattle.std.proofs.Common.{take}
use Rattle.segments.specs.Private.Joins.{AreTargets}
use Rattle.segments.proofs.merge.targets.Given as goal

abbrev pub invariant-loop-number : goal.invariant-loop-number
invariant-loop-number l = AreTargets (take l.number-index l.from) l.numbers l.targets.items

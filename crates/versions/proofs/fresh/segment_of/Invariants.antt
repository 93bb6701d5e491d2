use Rattle.std.proofs.Common.{◌+◌}
use Rattle.versions.specs.Private.Fresh.{unnamed, AreAnalysed}
use Rattle.versions.proofs.fresh.segment_of.Given as goal

abbrev pub invariant-loop-at : goal.invariant-loop-at
invariant-loop-at l = AreAnalysed l.first (l.first + l.at) (unnamed l.contents) l.made

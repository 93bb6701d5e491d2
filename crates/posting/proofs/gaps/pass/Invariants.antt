use Rattle.std.proofs.Common.{length}
use Rattle.posting.specs.Private.Gaps.{IsPassed}
use Rattle.posting.proofs.gaps.pass.Given as goal

abbrev pub invariant-loop-rest : goal.invariant-loop-rest
invariant-loop-rest l = IsPassed l.before l.bytes l.number l.at l.rest

abbrev pub decreases-loop-rest : goal.decreases-loop-rest
decreases-loop-rest l = length l.rest

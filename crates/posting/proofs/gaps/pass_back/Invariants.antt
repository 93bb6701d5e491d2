use Rattle.std.proofs.Common.{length}
use Rattle.posting.specs.Private.Gaps.{IsCut}
use Rattle.posting.proofs.gaps.pass_back.Given as goal

abbrev pub invariant-loop-front : goal.invariant-loop-front
invariant-loop-front l = IsCut l.bytes l.number l.front l.at

abbrev pub decreases-loop-front : goal.decreases-loop-front
decreases-loop-front l = length l.front

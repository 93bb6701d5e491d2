use Rattle.std.proofs.Common.{◌-◌, length}
use Rattle.posting.specs.Private.Gaps.{AreSameBytes}
use Rattle.posting.proofs.gaps.same_bytes.Given as goal

abbrev pub invariant-loop-place : goal.invariant-loop-place
invariant-loop-place l = AreSameBytes l.left l.right l.place

abbrev pub decreases-loop-place : goal.decreases-loop-place
decreases-loop-place l = length l.left - l.place

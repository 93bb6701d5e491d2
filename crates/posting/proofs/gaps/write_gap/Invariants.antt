use Rattle.posting.proofs.Groups.{Writing}
use Rattle.posting.proofs.gaps.write_gap.Given as goal

abbrev pub invariant-loop-left : goal.invariant-loop-left
invariant-loop-left l = Writing l.initial.bytes l.from l.gap l.bytes l.place l.left

abbrev pub decreases-loop-left : goal.decreases-loop-left
decreases-loop-left l = l.left

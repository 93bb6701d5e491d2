use Rattle.std.proofs.Common.{◌≤◌}
use Rattle.posting.proofs.gaps.whole_numbers.Given as goal

abbrev pub invariant-loop-place : goal.invariant-loop-place
invariant-loop-place l = l.place ≤ l.end

abbrev pub decreases-loop-place : goal.decreases-loop-place
decreases-loop-place l = l.place

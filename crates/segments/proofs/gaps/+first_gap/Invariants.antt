use Rattle.std.proofs.Common.{length}
use Rattle.segments.proofs.gaps.+first_gap.Given as goal

abbrev pub decreases-first_gap : goal.decreases-first_gap
decreases-first_gap l = length l.bytes.now

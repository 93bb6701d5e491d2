use Rattle.segments.proofs.GapLemmas.{Pushing}
use Rattle.segments.proofs.gaps.push_gap.Given as goal

abbrev pub invariant-loop-rest : goal.invariant-loop-rest
invariant-loop-rest l = Pushing l.initial.bytes.items l.gap l.bytes.items l.rest

abbrev pub decreases-loop-rest : goal.decreases-loop-rest
decreases-loop-rest l = l.rest

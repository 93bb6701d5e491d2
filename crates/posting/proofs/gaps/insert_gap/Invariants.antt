use Rattle.posting.proofs.Inserts.{Inserting}
use Rattle.posting.proofs.gaps.insert_gap.Given as goal

abbrev pub invariant-loop-rest : goal.invariant-loop-rest
invariant-loop-rest l = Inserting l.initial.bytes.items l.initial.bytes.capacity l.at l.gap l.bytes.items l.bytes.capacity l.rest

abbrev pub decreases-loop-rest : goal.decreases-loop-rest
decreases-loop-rest l = l.rest

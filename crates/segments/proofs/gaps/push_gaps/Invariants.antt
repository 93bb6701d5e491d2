use Rattle.segments.proofs.GapLemmas.{ArePushed}
use Rattle.segments.proofs.gaps.push_gaps.Given as goal

abbrev pub invariant-loop-number : goal.invariant-loop-number
invariant-loop-number l = ArePushed l.initial.bytes.items l.numbers l.number-index l.before l.bytes.items

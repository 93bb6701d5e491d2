use Rattle.std.proofs.Common.{length}
use Rattle.segments.proofs.GapLemmas.{AreRead}
use Rattle.segments.proofs.gaps.push_numbers.Given as goal

abbrev pub invariant-loop-rest : goal.invariant-loop-rest
invariant-loop-rest l = AreRead l.initial.numbers.items l.bytes l.before l.rest l.numbers.items

abbrev pub decreases-loop-rest : goal.decreases-loop-rest
decreases-loop-rest l = length l.rest

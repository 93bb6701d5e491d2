use Rattle.segments.proofs.BitLemmas.{AreBytesSoFar}
use Rattle.segments.proofs.bits.push_bits.Given as goal

abbrev pub invariant-loop-number : goal.invariant-loop-number
invariant-loop-number l = AreBytesSoFar l.places l.initial.bytes.items l.number l.at l.bytes.items

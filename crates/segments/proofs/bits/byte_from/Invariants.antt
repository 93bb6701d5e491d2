use Rattle.segments.proofs.BitLemmas.{IsByteSoFar}
use Rattle.segments.proofs.bits.byte_from.Given as goal

abbrev pub invariant-loop-bit : goal.invariant-loop-bit
invariant-loop-bit l = IsByteSoFar l.places l.number l.bit l.byte l.unit l.at

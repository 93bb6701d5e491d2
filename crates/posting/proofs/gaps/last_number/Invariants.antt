use Rattle.std.proofs.Common.{drop}
use Rattle.posting.specs.Private.Gaps.{numbers_after, last_of}
use Rattle.posting.proofs.Starts.{Adding}
use Rattle.posting.proofs.gaps.last_number.Given as goal

abbrev pub invariant-loop-byte : goal.invariant-loop-byte
invariant-loop-byte l = Adding (last_of l.before (numbers_after l.before l.bytes)) (drop l.byte-index l.bytes) l.at l.unit

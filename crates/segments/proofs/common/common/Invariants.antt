use Rattle.std.proofs.Common.{length}
use Rattle.segments.proofs.Searching.{IsSought}
use Rattle.segments.proofs.common.common.Given as goal

abbrev pub invariant-loop-at : goal.invariant-loop-at
invariant-loop-at g l = IsSought l.places l.bytes l.before l.rest l.at l.found.items

abbrev pub decreases-loop-at : goal.decreases-loop-at
decreases-loop-at g l = length l.rest

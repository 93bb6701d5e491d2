use Rattle.std.proofs.Common.{◌≡◌}
use Rattle.segments.specs.Private.Bits.{marked_below}
use Rattle.segments.proofs.places.all_marked.Given as goal

abbrev pub invariant-loop-place : goal.invariant-loop-place
invariant-loop-place g l = l.places.items ≡ marked_below l.place l.bytes

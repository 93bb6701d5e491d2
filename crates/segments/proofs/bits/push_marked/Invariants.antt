use Rattle.std.proofs.Common.{◌≡◌, ◌++◌}
use Rattle.segments.specs.Private.Bits.{marked_below}
use Rattle.segments.proofs.bits.push_marked.Given as goal

abbrev pub invariant-loop-place : goal.invariant-loop-place
invariant-loop-place l = l.places.items ≡ l.initial.places.items ++ marked_below l.place l.bytes

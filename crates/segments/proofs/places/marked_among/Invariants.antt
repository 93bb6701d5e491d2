use Rattle.std.proofs.Common.{◌≡◌, take}
use Rattle.std.specs.Prelude.{filter}
use Rattle.segments.specs.Private.Bits.{is_marked}
use Rattle.segments.proofs.places.marked_among.Given as goal

abbrev pub invariant-loop-place : goal.invariant-loop-place
invariant-loop-place g l = l.found.items ≡ filter (is_marked l.bytes) (take l.place-index l.places)

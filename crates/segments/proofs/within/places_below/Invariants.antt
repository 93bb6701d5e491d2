use Rattle.std.proofs.Common.{◌≡◌}
use Rattle.segments.specs.Private.Below.{numbers_below}
use Rattle.segments.proofs.within.places_below.Given as goal

abbrev pub invariant-loop-place : goal.invariant-loop-place
invariant-loop-place g l = l.places.items ≡ numbers_below l.place

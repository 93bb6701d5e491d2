use Rattle.std.proofs.Common.{◌≡◌, ◌++◌, map, take}
use Rattle.segments.specs.Private.Keys.{place_in}
use Rattle.segments.proofs.keys.push_places.Given as goal

abbrev pub invariant-loop-key : goal.invariant-loop-key
invariant-loop-key l = l.places.items ≡ l.initial.places.items ++ map place_in (take l.key-index l.keys)

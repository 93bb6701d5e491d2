use Rattle.versions.specs.Private.Fresh.{unnamed, ArePlaces}
use Rattle.versions.proofs.fresh.places.Given as goal

abbrev pub invariant-loop-place : goal.invariant-loop-place
invariant-loop-place l = ArePlaces l.first l.count (unnamed l.contents) l.place l.places.items

use Rattle.std.proofs.Common.{◌≡◌, [], take, length}
use Rattle.segments.specs.Contents.{contents_in}
use Rattle.segments.specs.Private.Joins.{AddsPlaces}
use Rattle.segments.proofs.join.find_places.Given as goal

abbrev pub invariant-loop-segment : goal.invariant-loop-segment
invariant-loop-segment l = record {
  begins : l.start ≡ length (contents_in (take l.segment-index l.segments));
  adds : AddsPlaces l.trigram (take l.start l.targets) (contents_in (take l.segment-index l.segments)) [] l.places.items;
}

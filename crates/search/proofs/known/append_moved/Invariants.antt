use Rattle.std.proofs.Common.{◌≡◌, ◌++◌, map, take}
use Rattle.search.specs.Private.Known.{moved_to}
use Rattle.search.proofs.known.append_moved.Given as goal

abbrev pub invariant-loop-place : goal.invariant-loop-place
invariant-loop-place g l = record {
  so_far : l.places.items ≡ l.initial.places.items ++ map (moved_to l.document) (take l.place-index l.added);
}

use Rattle.std.proofs.Common.{◌≡◌, ◌++◌, take}
use Rattle.std.specs.List.{filter_map}
use Rattle.segments.specs.Private.Joins.{target_of}
use Rattle.segments.proofs.join.push_targets.Given as goal

abbrev pub invariant-loop-place : goal.invariant-loop-place
invariant-loop-place l = l.to.items ≡ l.initial.to.items ++ filter_map (target_of l.targets) (take l.place-index l.places)

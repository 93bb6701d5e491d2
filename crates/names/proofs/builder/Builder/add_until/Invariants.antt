use Rattle.std.proofs.Common.{◌≡◌, ◌-◌, ◌<◌, ◌≤◌, ◌++◌, [], map, length, get_or}
use Rattle.std.specs.Prelude.{filter}
use Rattle.names.specs.Private.Entries.{begun, rest_of, passes, lies_behind}
use Rattle.names.proofs.builder.Builder.add_until.Given as goal

abbrev pub invariant-loop-chunk : goal.invariant-loop-chunk
invariant-loop-chunk l = record {
  inside : l.chunk < length l.chunks → l.at ≤ length (get_or l.chunks l.chunk []);
  added : l.self ++ map (begun l.count l.beginning) (filter (passes l.edge l.text) (rest_of l.chunks l.chunk l.at))
      ≡ l.fn.self ++ map (begun l.count l.beginning) (filter (passes l.edge l.text) l.fn.rest);
  left : filter (lies_behind l.edge l.text) (rest_of l.chunks l.chunk l.at) ≡ filter (lies_behind l.edge l.text) l.fn.rest;
}

abbrev pub decreases-loop-chunk : goal.decreases-loop-chunk
decreases-loop-chunk l = length l.chunks - l.chunk

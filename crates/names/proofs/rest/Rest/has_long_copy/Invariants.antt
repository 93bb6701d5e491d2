use Rattle.std.proofs.Common.{◌≡◌, ◌-◌, ◌<◌, ◌≤◌, [], length, get_or}
use Rattle.std.specs.Prelude.{filter}
use Rattle.std.specs.List.{list_any}
use Rattle.names.specs.declared.edge.Edge.TheVariants.{AfterUnder}
use Rattle.names.specs.Contents.{is_long_copy}
use Rattle.names.specs.Private.Entries.{rest_of, passes}
use Rattle.names.proofs.rest.Rest.has_long_copy.Given as goal

abbrev pub invariant-loop-chunk : goal.invariant-loop-chunk
invariant-loop-chunk l = record {
  inside : l.chunk < length l.chunks → l.at ≤ length (get_or l.chunks l.chunk []);
  done : list_any (λ e. is_long_copy l.most l.from l.to e.0) (filter (passes AfterUnder l.from) (rest_of l.chunks l.chunk l.at))
      ≡ list_any (λ e. is_long_copy l.most l.from l.to e.0) (filter (passes AfterUnder l.from) l.fn.self);
}

abbrev pub decreases-loop-chunk : goal.decreases-loop-chunk
decreases-loop-chunk l = length l.chunks - l.chunk

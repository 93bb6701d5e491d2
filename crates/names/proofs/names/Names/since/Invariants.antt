use Rattle.std.proofs.Common.{◌≡◌, map, take}
use Rattle.std.specs.Prelude.{filter}
use Rattle.names.specs.Contents.{contents_of, is_since}
use Rattle.names.specs.Private.Entries.{joined}
use Rattle.names.proofs.names.Names.since.Given as goal

abbrev pub invariant-loop-chunk : goal.invariant-loop-chunk
invariant-loop-chunk l = contents_of l.found.items ≡ filter (is_since l.number) (map (λ e. e.1) (joined (take l.chunk-index l.chunk-items)))

use Rattle.std.proofs.Common.{◌≡◌, ◌++◌, take}
use Rattle.names.specs.Private.Entries.{joined}
use Rattle.names.proofs.builder.push_all.Given as goal

abbrev pub invariant-loop-chunk : goal.invariant-loop-chunk
invariant-loop-chunk l = joined l.chunks.items ≡ joined l.initial.chunks.items ++ joined (take l.chunk-index l.rest)

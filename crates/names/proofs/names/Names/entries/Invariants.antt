use Rattle.std.proofs.Common.{◌≡◌, take}
use Rattle.names.specs.Contents.{entries_of}
use Rattle.names.specs.Private.Entries.{joined}
use Rattle.names.proofs.names.Names.entries.Given as goal

abbrev pub invariant-loop-chunk : goal.invariant-loop-chunk
invariant-loop-chunk l = entries_of l.found.items ≡ joined (take l.chunk-index l.chunk-items)

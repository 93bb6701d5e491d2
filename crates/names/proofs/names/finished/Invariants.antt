use Rattle.std.proofs.Common.{◌≡◌, length, take}
use Rattle.names.specs.Private.Entries.{joined, entries_bytes}
use Rattle.names.proofs.names.finished.Given as goal

abbrev pub invariant-loop-chunk : goal.invariant-loop-chunk
invariant-loop-chunk l = record {
  count_is : l.count ≡ length (joined (take l.chunk-index l.chunk-items));
  bytes_are : l.bytes ≡ entries_bytes (joined (take l.chunk-index l.chunk-items));
}

use Rattle.std.proofs.Common.{◌≡◌, take}
use Rattle.std.specs.Prelude.{filter}
use Rattle.names.specs.Contents.{has_one_of}
use Rattle.names.specs.Private.Entries.{joined}
use Rattle.names.specs.Private.Counted.{AreCounted}
use Rattle.names.proofs.names.Names.chosen.Given as goal

abbrev pub invariant-loop-chunk : goal.invariant-loop-chunk
invariant-loop-chunk g l = record {
  same : l.under ≡ l.prefixes;
  counted : AreCounted l.prefixes l.most (filter (has_one_of l.numbers) (joined (take l.chunk-index l.chunk-items))) l.found.count l.found.named.items;
}

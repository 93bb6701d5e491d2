use Rattle.std.proofs.Common.{◌≡◌, ◌++◌, drop}
use Rattle.names.specs.Private.Entries.{joined, laid_over}
use Rattle.names.proofs.builder.over.Given as goal

abbrev pub invariant-loop-chunk : goal.invariant-loop-chunk
invariant-loop-chunk l = l.made ++ laid_over (joined (drop l.chunk-index l.chunks)) l.rest ≡ laid_over (joined l.chunks) (joined l.others)

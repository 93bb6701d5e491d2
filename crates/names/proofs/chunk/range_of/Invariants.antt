use Rattle.std.proofs.Common.{take}
use Rattle.names.specs.Private.Entries.{LieWithin}
use Rattle.names.proofs.chunk.range_of.Given as goal

abbrev pub invariant-loop-content : goal.invariant-loop-content
invariant-loop-content l = LieWithin l.oldest l.newest (take l.content-index l.contents)

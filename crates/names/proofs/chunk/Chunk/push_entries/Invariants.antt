use Rattle.std.proofs.Common.{◌≡◌, ◌++◌, take}
use Rattle.names.specs.Contents.{entries_of}
use Rattle.names.proofs.chunk.Chunk.push_entries.Given as goal

abbrev pub invariant-loop-at : goal.invariant-loop-at
invariant-loop-at l = entries_of l.found.items ≡ entries_of l.initial.found.items ++ take l.at l.self

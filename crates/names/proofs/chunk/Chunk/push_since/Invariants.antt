use Rattle.std.proofs.Common.{◌≡◌, ◌++◌, map, take}
use Rattle.std.specs.Prelude.{filter}
use Rattle.names.specs.Contents.{contents_of, is_since}
use Rattle.names.proofs.chunk.Chunk.push_since.Given as goal

abbrev pub invariant-loop-at : goal.invariant-loop-at
invariant-loop-at l = contents_of l.found.items ≡ contents_of l.initial.found.items ++ filter (is_since l.number) (map (λ e. e.1) (take l.at l.self))

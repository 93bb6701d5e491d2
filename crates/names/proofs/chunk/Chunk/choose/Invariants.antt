use Rattle.std.proofs.Common.{◌≡◌, take}
use Rattle.std.specs.Prelude.{filter}
use Rattle.names.specs.Contents.{has_one_of}
use Rattle.names.specs.Private.Counted.{Counts}
use Rattle.names.proofs.chunk.Chunk.choose.Given as goal

abbrev pub invariant-loop-at : goal.invariant-loop-at
invariant-loop-at l = record {
  same : l.under ≡ l.initial.under;
  counts : Counts l.initial.under l.most (filter (has_one_of l.numbers) (take l.at l.self)) l.initial.chosen l.chosen;
}

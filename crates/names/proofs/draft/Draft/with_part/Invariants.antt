use Rattle.std.proofs.Common.{◌≡◌, ◌++◌}
use Rattle.names.specs.Private.Entries.{begun_within}
use Rattle.names.proofs.draft.Draft.with_part.Given as goal

abbrev pub invariant-loop-at : goal.invariant-loop-at
invariant-loop-at l = l.draft ≡ l.fn.self ++ begun_within l.from l.at l.count l.beginning l.chunk

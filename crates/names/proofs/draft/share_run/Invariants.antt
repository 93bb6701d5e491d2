use Rattle.std.proofs.Common.{◌≡◌, ◌+◌, ◌++◌, map, take, drop}
use Rattle.names.specs.Private.Entries.{Entry, entries_bytes}
use Rattle.names.proofs.draft.share_run.Given as goal

abbrev pub invariant-loop-at : goal.invariant-loop-at
invariant-loop-at l = record {
  contents : l.contents.items ≡ l.initial.contents.items ++ map (λ (e : Entry). e.1) (drop l.from (take l.at l.chunk));
  bytes : l.total ≡ l.bytes + entries_bytes (drop l.from (take l.at l.chunk));
}

use Rattle.std.proofs.Common.{List, ℕ}
use Rattle.std.specs.Prelude.{All}
use Rattle.ere.specs.Tree.{form}
use Rattle.prepare.specs.Tests.{test_of}
use Rattle.search.specs.Private.Known.{EntryHasBody, HasBody, IsEntry}
use Rattle.search.specs.Private.Ways.{Finds}
use Rattle.search.proofs.known.entries_by.Given as goal

abbrev pub invariant-loop-document : goal.invariant-loop-document
invariant-loop-document g l = record {
  entries : All (IsEntry (test_of l.wanted.prepared.now.line)) l.entries.items;
  bodies : (body : ℕ → List ℕ) → All (HasBody body) l.documents → All (EntryHasBody body) l.entries.items;
  way : Finds (form l.wanted.prepared.now.line.tree) l.way;
}

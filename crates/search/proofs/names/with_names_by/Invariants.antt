use Rattle.std.proofs.Common.{◌≡◌, length}
use Rattle.std.specs.Vec.Iter.{into_iter_items, into_iter_len}
use Rattle.ere.specs.Tree.{form}
use Rattle.prepare.specs.Tests.{test_of}
use Rattle.search.specs.Selects.{IsNamed}
use Rattle.search.specs.Private.Ways.{Finds}
use Rattle.search.proofs.NameLemmas.{KeepsSoFar}
use Rattle.search.proofs.names.with_names_by.Given as goal

abbrev pub invariant-loop-document : goal.invariant-loop-document
invariant-loop-document g l = record {
  so_far : KeepsSoFar (IsNamed (test_of l.test)) (into_iter_items l.initial.document-iterator) l.kept.items (into_iter_items l.document-iterator);
  len : into_iter_len l.document-iterator ≡ length (into_iter_items l.document-iterator);
  way : Finds (form l.test.tree) l.way;
}

use Rattle.std.proofs.Common.{◌≡◌, length}
use Rattle.std.specs.Vec.Iter.{into_iter_items, into_iter_len}
use Rattle.prepare.specs.Prepared.{pattern_of}
use Rattle.search.specs.Private.Ways.{IsBegun}
use Rattle.search.proofs.NameLemmas.{KeepsSoFar}
use Rattle.search.proofs.names.within.Given as goal

abbrev pub invariant-loop-document : goal.invariant-loop-document
invariant-loop-document g l = record {
  so_far : KeepsSoFar (IsBegun (pattern_of l.prepared)) (into_iter_items l.initial.document-iterator) l.kept.items (into_iter_items l.document-iterator);
  len : into_iter_len l.document-iterator ≡ length (into_iter_items l.document-iterator);
}

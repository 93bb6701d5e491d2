use Rattle.std.proofs.Common.{◌+◌, ◌≤◌, ℕ, List, length}
use Rattle.ere.specs.Tree.{form}
use Rattle.prepare.specs.Tests.{test_of}
use Rattle.lines.specs.Lines.{lines_of}
use Rattle.documents.specs.Text.{greatest_body}
use Rattle.search.specs.Private.Pieces.{IsPiece}
use Rattle.views.specs.Found.{numbered, lines_of_document}
use Rattle.search.specs.Private.Added.{HasTextAt}
use Rattle.search.specs.Private.Ways.{Finds}
use Rattle.search.proofs.PlaceLemmas.{AddsSoFar}
use Rattle.search.proofs.matching.scan_body.Given as goal

abbrev pub invariant-loop-end : goal.invariant-loop-end
invariant-loop-end g l = record {
  so_far : (name : List ℕ) → AddsSoFar (test_of l.test) l.document name l.body (numbered name l.line (lines_of l.rest))
      (lines_of_document name l.body) l.initial.places.items l.places.items;
  way : Finds (form l.test.tree) l.way;
  there : HasTextAt l.body l.offset l.rest;
  place : l.offset + length l.rest ≤ greatest_body;
  room : l.line + length l.rest ≤ 1 + greatest_body;
  piece : IsPiece l.most_bytes l.rest l.end;
}

abbrev pub decreases-loop-end : goal.decreases-loop-end
decreases-loop-end g l = length l.rest

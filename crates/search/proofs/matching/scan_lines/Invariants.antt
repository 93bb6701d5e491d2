use Rattle.std.proofs.Common.{◌≡◌, ◌+◌, ◌≤◌, ℕ, List, length}
use Rattle.lines.specs.Lines.{lines_of}
use Rattle.ere.specs.Tree.{form}
use Rattle.prepare.specs.Tests.{test_of}
use Rattle.views.specs.Found.{numbered}
use Rattle.search.specs.Private.Added.{HasTextAt}
use Rattle.search.specs.Private.Ways.{Finds}
use Rattle.search.proofs.PlaceLemmas.{AddsSoFar}
use Rattle.search.proofs.matching.scan_lines.Given as goal

abbrev pub invariant-loop-end : goal.invariant-loop-end
invariant-loop-end g l = record {
  so_far : (body name : List ℕ) → HasTextAt body l.offset l.text
      → AddsSoFar (test_of l.test) l.document name body (numbered name l.line (lines_of l.rest)) (numbered name l.from (lines_of l.text))
      l.initial.places.items l.places.items;
  way : Finds (form l.test.tree) l.way;
  there : (body : List ℕ) → HasTextAt body l.offset l.text → HasTextAt body l.at l.rest;
  place : l.at + length l.rest ≡ l.offset + length l.text;
  room : l.line + length l.rest ≤ l.from + length l.text;
}

abbrev pub decreases-loop-end : goal.decreases-loop-end
decreases-loop-end g l = length l.rest

use Rattle.std.proofs.Common.{◌≡◌, ◌+◌, ◌≤◌, ℕ, List, length}
use Rattle.lines.specs.Lines.{lines_of}
use Rattle.ere.specs.Tree.{Tree}
use Rattle.engine.specs.Patterns.{IsFinderOf, IsLineFinderOf}
use Rattle.views.specs.Found.{numbered}
use Rattle.search.specs.Private.Added.{HasTextAt}
use Rattle.prepare.specs.Pattern.{with_match}
use Rattle.search.proofs.PlaceLemmas.{AddsSoFar}
use Rattle.search.proofs.matching.sweep_lines.Given as goal

abbrev pub invariant-loop-first : goal.invariant-loop-first
invariant-loop-first l = record {
  so_far : (tree : Tree) (body name : List ℕ) → IsLineFinderOf tree l.initial.finder → HasTextAt body l.offset l.text
      → AddsSoFar (with_match tree) l.document name body (numbered name l.line (lines_of l.rest)) (numbered name l.from (lines_of l.text))
      l.initial.places.items l.places.items;
  same : (tree : Tree) → IsFinderOf tree l.initial.finder → IsFinderOf tree l.finder;
  there : (body : List ℕ) → HasTextAt body l.offset l.text → HasTextAt body l.at l.rest;
  place : l.at + length l.rest ≡ l.offset + length l.text;
  room : l.line + length l.rest ≤ l.from + length l.text;
}

abbrev pub decreases-loop-first : goal.decreases-loop-first
decreases-loop-first l = length l.rest

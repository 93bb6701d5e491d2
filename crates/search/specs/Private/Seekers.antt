-- How matches within a line are looked for.
use Rattle.std.specs.Prelude.{◌≡◌, ◌≢◌, ℕ, ◌<◌, ◌≤◌, Bool, true, false, List, length, slice_index, Option, Some, None, IfSome}
use Rattle.ere.specs.Tree.{Tree}
use Rattle.engine.specs.Patterns.{IsFinderOf}
use Rattle.request.specs.declared.options.View.{View}
use Rattle.request.specs.declared.options.View.TheVariants as view
use Rattle.prepare.specs.Prepared.{request_of}
use Rattle.views.specs.Rows.{shown_tree}
use Rattle.search.specs.declared.gathered.Wanted.{Wanted}
use Rattle.search.specs.declared.seeker.Seeker.{Seeker}
use Rattle.search.specs.declared.seeker.Tried.{Tried}
use Rattle.search.specs.declared.seeker.Tried.TheVariants.{Span, From}
use Rattle.simulation.specs.Simulations.{IsSimulationOf}
use Rattle.spans.specs.FirstSpan.{IsFirstSpan, IsSpan}
use Rattle.spans.specs.Passes.{NoSpanBegins}

-- Its simulation is one of the tree, and so is its finder, if it has one.
pub record Seeks (tree : Tree) (seeker : Seeker) : Type 0 where
  pub finder : IfSome seeker.finder (IsFinderOf tree)
  pub simulation : IsSimulationOf tree seeker.simulation

-- columns or spans are shown
abbrev pub shows_matches : View → Bool
shows_matches view.Column = true
shows_matches view.Spans = true
shows_matches _ = false

-- There is a seeker of the matches that are shown, or none are shown.
unfoldable pub CanShow : Wanted → Option Seeker → Type 0
CanShow wanted None = shows_matches wanted.view ≡ false
CanShow wanted (Some seeker) = Seeks (shown_tree (request_of wanted.prepared.now)) seeker

-- The line has no line feed.
abbrev pub IsOneLine : List ℕ → Type 0
IsOneLine line = (k : ℕ) → k < length line → slice_index line k ≢ 10

-- A span begins at the position, which is before `past`, and none from `from` on begins before it.
pub record IsLeastStart (line : List ℕ) (tree : Tree) (whole_words : Bool) (from past start : ℕ) : Type 0 where
  pub begins : (end : ℕ) × IsSpan line tree whole_words from start end
  pub before : start < past
  pub least : NoSpanBegins line tree whole_words from start

-- The first span from a position on was found, or there is none before another position.
unfoldable pub IsTried : List ℕ → Tree → Bool → ℕ → Tried → Type 0
IsTried line tree whole_words from (Span span) = IsFirstSpan line tree whole_words from span
IsTried line tree whole_words from (From next) = (from ≤ next) × NoSpanBegins line tree whole_words from next

-- What one pass over a line tells of its matches. The first one that is not empty, and where the leftmost one begins, are found
-- by several passes.
use Rattle.std.specs.Prelude.{ℕ, ◌<◌, ◌≤◌, Bool, List}
use Rattle.ere.specs.Tree.{Tree}
use Rattle.spans.specs.FirstSpan.{IsMatchAt, IsSpan}

-- A match that is not empty begins at a position from `first` up to but not including `past`.
abbrev pub SomeSpanBegins : List ℕ → Tree → Bool → ℕ → ℕ → Type 0
SomeSpanBegins line tree whole_words first past = (start end : ℕ) × (start < past) × IsSpan line tree whole_words first start end

-- None begins there: each one that begins at `first` or later begins at `past` or later.
abbrev pub NoSpanBegins : List ℕ → Tree → Bool → ℕ → ℕ → Type 0
NoSpanBegins line tree whole_words first past = (start end : ℕ) → IsSpan line tree whole_words first start end → past ≤ start

-- Of the matches that begin at the position and are not empty the longest one ends at `end`.
pub record IsLongestEnd (line : List ℕ) (tree : Tree) (whole_words : Bool) (start end : ℕ) : Type 0 where
  pub is_span : IsSpan line tree whole_words start start end
  pub longest : (other : ℕ) → IsSpan line tree whole_words start start other → other ≤ end

-- No match begins at the position that is not empty.
abbrev pub HasNoSpanAt : List ℕ → Tree → Bool → ℕ → Type 0
HasNoSpanAt line tree whole_words start = (end : ℕ) → IsSpan line tree whole_words start start end → ⊥

-- An empty match is at the position, and none is before it.
pub record IsFirstEmpty (line : List ℕ) (tree : Tree) (whole_words : Bool) (at : ℕ) : Type 0 where
  pub is_match : IsMatchAt line tree whole_words at at
  pub leftmost : (other : ℕ) → IsMatchAt line tree whole_words other other → at ≤ other

abbrev pub HasNoEmpty : List ℕ → Tree → Bool → Type 0
HasNoEmpty line tree whole_words = (at : ℕ) → IsMatchAt line tree whole_words at at → ⊥

-- The leftmost match of a line from a position on (POSIX.1-2017 XBD 9.1). It can be empty.
use Rattle.std.specs.Prelude.{ℕ, ◌<◌, ◌≤◌, false, List}
use Rattle.ere.specs.Tree.{Tree}
use Rattle.spans.specs.FirstSpan.{IsMatchAt}
use Rattle.spans.specs.FirstStart.{HasNoMatchAt}

-- The part of the line is a match that begins at `from` or later, and none begins between `from` and it. It is not always
-- the longest one that begins there.
pub record IsNextMatch (line : List ℕ) (tree : Tree) (from start end : ℕ) : Type 0 where
  pub after : from ≤ start
  pub is_match : IsMatchAt line tree false start end
  pub leftmost : (before : ℕ) → from ≤ before → before < start → HasNoMatchAt line tree false before

-- No match begins at `from` or later.
abbrev pub HasNoMatchFrom : List ℕ → Tree → ℕ → Type 0
HasNoMatchFrom line tree from = (start : ℕ) → from ≤ start → HasNoMatchAt line tree false start

-- Where in a line the leftmost match begins (POSIX.1-2017 XBD 9.1). The match can be empty.
use Rattle.std.specs.Prelude.{ℕ, ◌<◌, Bool, List}
use Rattle.ere.specs.Tree.{Tree}
use Rattle.spans.specs.FirstSpan.{IsMatchAt}

-- A match begins at the position.
abbrev pub BeginsMatch : List ℕ → Tree → Bool → ℕ → Type 0
BeginsMatch line tree whole_words start = (end : ℕ) × IsMatchAt line tree whole_words start end

abbrev pub HasNoMatchAt : List ℕ → Tree → Bool → ℕ → Type 0
HasNoMatchAt line tree whole_words start = (end : ℕ) → IsMatchAt line tree whole_words start end → ⊥

-- A match begins there, and none begins before it.
pub record IsFirstStart (line : List ℕ) (tree : Tree) (whole_words : Bool) (start : ℕ) : Type 0 where
  pub begins : BeginsMatch line tree whole_words start
  pub leftmost : (before : ℕ) → before < start → HasNoMatchAt line tree whole_words before

-- No match begins anywhere.
abbrev pub HasNoStart : List ℕ → Tree → Bool → Type 0
HasNoStart line tree whole_words = (start : ℕ) → HasNoMatchAt line tree whole_words start

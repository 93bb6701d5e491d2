-- The parts of a line that a search shows, from left to right: of all matches that are not empty the one that begins
-- first, and of those that begin there the longest (POSIX.1-2017 XBD 9.1); and then the same from its end on.
use Rattle.std.specs.Prelude.{◌≡◌, ℕ, suc, ◌<◌, ◌≤◌, Bool, IsFalse, IsTrue, List, [], ◌∷◌, length, slice_index}
use Rattle.ere.specs.Classes.{is_word_byte}
use Rattle.ere.specs.Tree.{Tree}
use Rattle.spans.specs.Spans.{Spans}
use Rattle.spans.specs.declared.span.Span.{Span}

-- No word byte is right before the part of a line, or right after it.
pub record IsWhole (line : List ℕ) (start end : ℕ) : Type 0 where
  pub before : (k : ℕ) → start ≡ suc k → IsFalse (is_word_byte (slice_index line k))
  pub after : end < length line → IsFalse (is_word_byte (slice_index line end))

-- The part of the line is a word of the tree there, and if whole words are asked for, it is whole. It can be empty.
pub record IsMatchAt (line : List ℕ) (tree : Tree) (whole_words : Bool) (start end : ℕ) : Type 0 where
  pub ordered : start ≤ end
  pub inside : end ≤ length line
  pub word : Spans line tree start end
  pub whole : IsTrue whole_words → IsWhole line start end

-- The part of the line is a match there that is not empty and begins at `from` or later.
pub record IsSpan (line : List ℕ) (tree : Tree) (whole_words : Bool) (from start end : ℕ) : Type 0 where
  pub begins : from ≤ start
  pub some : start < end
  pub is_match : IsMatchAt line tree whole_words start end

-- No other such part begins before it, and none that begins where it does ends after it.
pub record IsFirstSpan (line : List ℕ) (tree : Tree) (whole_words : Bool) (from : ℕ) (span : Span) : Type 0 where
  pub is_span : IsSpan line tree whole_words from span.start span.end
  pub leftmost : (start end : ℕ) → IsSpan line tree whole_words from start end → span.start ≤ start
  pub longest : (end : ℕ) → IsSpan line tree whole_words from span.start end → end ≤ span.end

abbrev pub HasNoSpan : List ℕ → Tree → Bool → ℕ → Type 0
HasNoSpan line tree whole_words from = (start end : ℕ) → IsSpan line tree whole_words from start end → ⊥

-- The spans are all those of the line from a position on, each the first one from the end of the one before.
abbrev pub AreSpans : List ℕ → Tree → Bool → ℕ → List Span → Type 0
AreSpans line tree whole_words from [] = HasNoSpan line tree whole_words from
AreSpans line tree whole_words from (span ∷ spans) = IsFirstSpan line tree whole_words from span × AreSpans line tree whole_words span.end spans

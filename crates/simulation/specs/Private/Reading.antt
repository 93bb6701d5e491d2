-- A line that is read byte by byte.
use Rattle.std.specs.Prelude.{◌≡◌, ℕ, ◌<◌, ◌≤◌, Bool, ◌&&◌, if◌then◌else◌, min, IsFalse, IsTrue, List, length, slice_index}
use Rattle.spans.specs.Sides.{is_word_after, is_word_before}
use Rattle.simulation.specs.declared.ends.WordRange.{WordRange}
use Rattle.simulation.specs.declared.node.Gaps.{Gaps}
use Rattle.simulation.specs.Nodes.{Shape, Reads, is_gap}
use Rattle.simulation.specs.Pending.{IsKept, IsWhole, Pending, size_of}

-- the positions before another one at which words can begin: the first of all, if they begin at the line's start only
abbrev pub least_past : Bool → ℕ → ℕ
least_past at_start past = if at_start then min past 1 else past

-- No cell is set.
abbrev pub AreClear : List ℕ → Type 0
AreClear cells = (i : ℕ) → slice_index cells i ≡ 0

-- There is room for one copy of the node.
pub record HasRoom (node : Shape) (entered cells : List ℕ) : Type 0 where
  pub whole : IsWhole node 1
  pub entered_all : length entered ≡ size_of node 1
  pub cells_all : length cells ≡ size_of node 1

-- A word that is looked for can begin at the position.
pub record IsStart (line : List ℕ) (wanted : WordRange) (start : ℕ) : Type 0 where
  pub least : wanted.first ≤ start
  pub below : start < wanted.past
  pub free : IsFalse (wanted.whole_words && is_word_before line start)

-- The part of the line is a word that is looked for.
pub record IsWanted (line : List ℕ) (node : Shape) (wanted : WordRange) (start end : ℕ) : Type 0 where
  pub begins : IsStart line wanted start
  pub word : Reads line node start end
  pub free : IsFalse (wanted.whole_words && is_word_after line end)

-- Such a word ends at the position.
abbrev pub Ends : List ℕ → Shape → WordRange → ℕ → Type 0
Ends line node wanted end = (start : ℕ) × IsWanted line node wanted start end

-- No such word ends after the position.
abbrev pub NoneEndsAfter : List ℕ → Shape → WordRange → ℕ → Type 0
NoneEndsAfter line node wanted from = (end : ℕ) → from < end → Ends line node wanted end → ⊥

-- It is the first position after another one at which such a word ends.
pub record IsNextEnd (line : List ℕ) (node : Shape) (wanted : WordRange) (from end : ℕ) : Type 0 where
  pub after : from < end
  pub ends : Ends line node wanted end
  pub next : (other : ℕ) → from < other → Ends line node wanted other → end ≤ other

-- No such word ends after it.
pub record IsLastEnd (line : List ℕ) (node : Shape) (wanted : WordRange) (end : ℕ) : Type 0 where
  pub ends : Ends line node wanted end
  pub last : (other : ℕ) → Ends line node wanted other → other ≤ end

-- Such a word begins at the position.
abbrev pub Begins : List ℕ → Shape → WordRange → ℕ → Type 0
Begins line node wanted start = (end : ℕ) × IsWanted line node wanted start end

-- Such a word is in the line.
abbrev pub HasWanted : List ℕ → Shape → WordRange → Type 0
HasWanted line node wanted = (start : ℕ) × Begins line node wanted start

-- The line is read up to here: the words that begin where one can begin that is looked for, and end here or later, are pending.
pub record IsReadTo (line : List ℕ) (here : ℕ) (node : Shape) (wanted : WordRange) (cells : List ℕ) : Type 0 where
  pub least : wanted.first ≤ here
  pub kept : IsKept line here node 1 cells
  pub sound : (to : ℕ) → Pending line here node 1 cells 0 to → (start : ℕ) × IsStart line wanted start × Reads line node start to
  pub begun : (start to : ℕ) → IsStart line wanted start → start < here → here ≤ to → Reads line node start to → Pending line here node 1 cells 0 to

-- The empty word is at the position, and if whole words are asked for, no word byte is right before it or right after it.
pub record IsFreeGap (gaps : Gaps) (line : List ℕ) (whole_words : Bool) (at : ℕ) : Type 0 where
  pub inside : at ≤ length line
  pub gap : IsTrue (is_gap gaps line at)
  pub free_before : IsFalse (whole_words && is_word_before line at)
  pub free_after : IsFalse (whole_words && is_word_after line at)

-- No such empty word is in the line.
abbrev pub HasNoFreeGap : Gaps → List ℕ → Bool → Type 0
HasNoFreeGap gaps line whole_words = (at : ℕ) → IsFreeGap gaps line whole_words at → ⊥

-- No other one is before it.
pub record IsFirstGap (gaps : Gaps) (line : List ℕ) (whole_words : Bool) (at : ℕ) : Type 0 where
  pub free : IsFreeGap gaps line whole_words at
  pub first : (other : ℕ) → IsFreeGap gaps line whole_words other → at ≤ other

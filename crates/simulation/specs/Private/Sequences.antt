-- Nodes one after the other.
use Rattle.std.specs.Prelude.{◌≡◌, ℕ, ◌+◌, ◌*◌, ◌≤◌, ◌↔◌, IsTrue, List, length, ◌⊎◌}
use Rattle.spans.specs.Spans.{Relation}
use Rattle.simulation.specs.Nodes.{shape}
use Rattle.simulation.specs.Packing.{WordsAt}
use Rattle.simulation.specs.Pending.{IsWhole, size_of}
use Rattle.simulation.specs.Private.Rows.{OfRow}
use Rattle.simulation.specs.declared.sequence.Packed.{Packed}
use Rattle.simulation.specs.declared.sequence.Sequence.{Sequence}

-- Two relations have the same words in each line.
abbrev pub AreSame : (List ℕ → Relation) → (List ℕ → Relation) → Type 0
AreSame one other = (line : List ℕ) (from to : ℕ) → one line from to ↔ other line from to

-- a word of one relation and then a word of another
abbrev pub Then : (List ℕ → Relation) → (List ℕ → Relation) → List ℕ → Relation
Then one other line from to = (middle : ℕ) × one line from middle × other line middle to

-- the words of a node, and the empty word where it is
abbrev pub WordsOf : Packed → List ℕ → Relation
WordsOf packed = WordsAt (shape packed.node) packed.gaps

-- The numbers that are kept with a node are those of this many copies.
pub record IsFor (packed : Packed) (copies : ℕ) : Type 0 where
  pub whole : IsWhole (shape packed.node) copies
  pub sized : size_of (shape packed.node) copies ≡ packed.size
  pub steady : IsTrue packed.gaps.inside → IsTrue packed.gaps.start × IsTrue packed.gaps.end

-- A node that is made for this many copies has the words of a relation.
pub record Holds (words : List ℕ → Relation) (packed : Packed) (copies : ℕ) : Type 0 where
  pub same : AreSame (WordsOf packed) words
  pub valid : IsFor packed copies

-- the words of a sequence: one of its node, and then bytes of each place
abbrev pub WordsOfSequence : Sequence → List ℕ → Relation
WordsOfSequence sequence = Then (WordsOf sequence.before) (OfRow sequence.row.items)

-- Its node is made for this many copies, and a word of cells has room for its places and for what is entered before them.
pub record IsSequence (sequence : Sequence) (copies : ℕ) : Type 0 where
  pub before : IsFor sequence.before copies
  pub fits : (length sequence.row.items ≡ 0) ⊎ (length sequence.row.items * copies + copies ≤ 64)

-- A sequence has the words of another, and then those of a relation.
pub record GoesOn (words : List ℕ → Relation) (sequence longer : Sequence) (copies : ℕ) : Type 0 where
  pub same : AreSame (WordsOfSequence longer) (Then (WordsOfSequence sequence) words)
  pub valid : IsSequence longer copies

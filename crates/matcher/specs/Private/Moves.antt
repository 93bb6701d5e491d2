-- Sets of positions, seen only by `has_position` and `absent`, and how they move.
use Rattle.std.specs.Prelude.{◌≡◌, ℕ, zero, suc, ◌*◌, Bool, true, false, not, ◌&&◌, ◌||◌, ◌⊎◌, IsTrue, List, length}
use Rattle.spans.specs.PositionSets.{has_position}
use Rattle.spans.specs.Spans.{Relation}

-- the count, and one more if the position is not in the set
abbrev pub more_unless : Bool → ℕ → ℕ
more_unless true count = count
more_unless false count = suc count

-- how many positions below a number are not in the set
unfoldable pub absent_below : List ℕ → ℕ → ℕ
absent_below words zero = 0
absent_below words (suc k) = more_unless (has_position words k) (absent_below words k)

-- how many positions are not in the set
unfoldable pub absent : List ℕ → ℕ
absent words = absent_below words (64 * length words)

pub record HasNone (set : List ℕ) : Type 0 where
  pub none : (k : ℕ) → has_position set k ≡ false

-- the positions that are in either of two sets
pub record IsEither (left right both : List ℕ) : Type 0 where
  pub each : (k : ℕ) → has_position both k ≡ (has_position left k || has_position right k)

-- the positions of a set that were not in what had been found
pub record IsNew (next found fresh : List ℕ) : Type 0 where
  pub each : (k : ℕ) → has_position fresh k ≡ (has_position next k && not (has_position found k))

-- The second set has the positions to which the relation leads from the first, and no others.
pub record Moves (relation : Relation) (from to : List ℕ) : Type 0 where
  pub sound : (end : ℕ) → IsTrue (has_position to end) → (start : ℕ) × IsTrue (has_position from start) × relation start end
  pub complete : (start end : ℕ) → IsTrue (has_position from start) → relation start end → IsTrue (has_position to end)

-- The second set has only positions to which the relation leads from the first. It can lack those to which the
-- relation also leads from a position of `done`.
pub record MovesPast (relation : Relation) (done from to : List ℕ) : Type 0 where
  pub sound : (end : ℕ) → IsTrue (has_position to end) → (start : ℕ) × IsTrue (has_position from start) × relation start end
  pub complete : (start end : ℕ) → IsTrue (has_position from start) → relation start end
      → IsTrue (has_position to end) ⊎ ((before : ℕ) × IsTrue (has_position done before) × relation before end)

-- `MovesPast` at the front of a repeat's body, and `Moves` elsewhere
abbrev pub MovesIf : Bool → Relation → List ℕ → List ℕ → List ℕ → Type 0
MovesIf true relation done from to = MovesPast relation done from to
MovesIf false relation done from to = Moves relation from to

-- Sets in a row that become one node.
use Rattle.std.specs.Prelude.{◌≡◌, ℕ, ◌+◌, ◌*◌, ◌<◌, ◌≤◌, ◌↔◌, Bool, false, IsTrue, List, [], ◌∷◌, length, slice_index, ◌⊎◌, if◌then◌else◌}
use Rattle.std.specs.List.{list_all}
use Rattle.ere.specs.Bits.{has_bit}
use Rattle.ere.specs.ByteSet.{has}
use Rattle.spans.specs.Spans.{Relation}
use Rattle.simulation.specs.declared.node.Gaps.{Gaps}
use Rattle.simulation.specs.Nodes.{Shape, set, Chain, Reads}
use Rattle.simulation.specs.Pending.{IsWhole, size_of, words_for}
use Rattle.simulation.specs.Packing.{everywhere, nowhere}
use Rattle.simulation.specs.declared.run.Mark.{Mark}
use Rattle.simulation.specs.declared.run.Mark.TheVariants.{Has, Optional, Repeated}
use Rattle.simulation.specs.declared.run.RowSet.{RowSet}

-- A word has a bit some strides above one, and another word has a bit at each stride on the way there, from that one on.
abbrev pub Passes : ℕ → ℕ → ℕ → ℕ → Type 0
Passes word passed stride bit =
    (steps : ℕ) × IsTrue (has_bit word (bit + steps * stride)) × ((step : ℕ) → step < steps → IsTrue (has_bit passed (bit + step * stride)))

-- whether a place has a mark
abbrev pub is_marked : Mark → RowSet → Bool
is_marked (Has byte) place = has place.members byte
is_marked Optional place = place.optional
is_marked Repeated place = place.repeated

-- A word has a bit for each copy of each place that passes a test, the last place lowest.
abbrev pub Marks : ℕ → ℕ → (RowSet → Bool) → List RowSet → Type 0
Marks word copies test [] = Unit {0}
Marks word copies test (place ∷ row) =
    ((copy : ℕ) → copy < copies → has_bit word (length row * copies + copy) ≡ test place) × Marks word copies test row

-- It has no other bits.
pub record IsMarked (word copies : ℕ) (test : RowSet → Bool) (row : List RowSet) : Type 0 where
  pub marks : Marks word copies test row
  pub none : (bit : ℕ) → length row * copies ≤ bit → bit < 64 → has_bit word bit ≡ false

-- For each byte there is a word that marks the places that have it.
pub record AreMasks (masks : List ℕ) (copies : ℕ) (row : List RowSet) : Type 0 where
  pub all : length masks ≡ 256
  pub each : (byte : ℕ) → byte < 256 → IsMarked (slice_index masks byte) copies (is_marked (Has byte)) row

-- Bytes of a place: one of its set, none if it is optional, or more if it is repeated.
pub record IsOfPlace (place : RowSet) (line : List ℕ) (from to : ℕ) : Type 0 where
  pub count : ℕ
  pub chain : Chain (Reads line (set place.members)) count from to
  pub enough : IsTrue place.optional ⊎ (0 < count)
  pub few : (count ≤ 1) ⊎ IsTrue place.repeated

-- bytes of each place, one after the other
abbrev pub OfRow : List RowSet → List ℕ → Relation
OfRow [] line from to = from ≡ to
OfRow (place ∷ row) line from to = (middle : ℕ) × IsOfPlace place line from middle × OfRow row line middle to

-- where all places of a row can be left out: everywhere or nowhere
abbrev pub gaps_of_row : List RowSet → Gaps
gaps_of_row row = if list_all (λ place. place.optional) row then everywhere else nowhere

-- The words of a node are those of the places of a row that are not empty.
abbrev pub ReadsRow : List RowSet → Shape → Type 0
ReadsRow row node = (line : List ℕ) (from to : ℕ) → Reads line node from to ↔ (from < to) × OfRow row line from to

-- With the gaps around it, a node has the words of one place.
pub record IsRowSet (place : RowSet) (node : Shape) (gaps : Gaps) : Type 0 where
  pub reads : ReadsRow (place ∷ []) node
  pub gap : gaps ≡ gaps_of_row (place ∷ [])

-- A node is made of a row, and its cells take no more words than one set.
pub record IsRunOf (row : List RowSet) (node : Shape) (copies : ℕ) : Type 0 where
  pub reads : ReadsRow row node
  pub whole : IsWhole node copies
  pub sized : size_of node copies ≡ words_for copies

-- The slots that hold the documents of an index.
use Rattle.std.specs.Prelude.{ℕ, ◌+◌, ◌*◌, ◌≤◌, length, not, ◌==◌, if◌then◌else◌, List, [], ◌∷◌, ◌++◌, All, map, filter, Option, Some, None}
use Rattle.std.specs.List.Sorted.{IsStrictlyIncreasing}
use Rattle.index.specs.declared.slots.Slot.{Slot}
use Rattle.index.specs.declared.slots.Occupant.{Occupant}
use Rattle.index.specs.Private.Numbered.{Document, document}

-- the document with this number and occupant, if there is an occupant
abbrev pub documents_of_slot : ℕ → Option Occupant → List Document
documents_of_slot number None = []
documents_of_slot number (Some occupant) = document number occupant.name occupant.held ∷ []

-- the documents in the slots
unfoldable pub documents_in : List Slot → List Document
documents_in [] = []
documents_in (slot ∷ slots) = documents_of_slot slot.number slot.occupant ++ documents_in slots

abbrev pub numbers_in : List Slot → List ℕ
numbers_in slots = map (λ s. s.number) slots

-- the numbers of the slots rise, and none is above `last`
pub record RiseTo (last : ℕ) (slots : List Slot) : Type 0 where
  pub rise : IsStrictlyIncreasing (numbers_in slots)
  pub below : All (λ n. n ≤ last) (numbers_in slots)

-- At most half of the slots are empty, rounded up.
abbrev pub FewAreEmpty : List Slot → Type 0
FewAreEmpty slots = length slots ≤ 2 * length (documents_in slots) + 1

-- the name and the body of an occupant
abbrev pub texts_of : Occupant → List ℕ × List ℕ
texts_of occupant = (occupant.name, occupant.held)

-- the documents except the one with this number
abbrev pub without_number : ℕ → List Document → List Document
without_number number documents = filter (λ d. not (d.number == number)) documents

-- the document, with this body if it has the number
abbrev pub with_body_at : ℕ → List ℕ → Document → Document
with_body_at number body d = if d.number == number then document d.number d.name body else d

-- The entries of a run in the order of its items, while searches are open.
use Rattle.std.specs.Prelude.{◌≡◌, ℕ, zero, suc, ◌+◌, ◌-◌, List, [], ◌∷◌, ◌++◌, length, Option, Some, None, slice_set, slice_index_or}
use Rattle.transcript.specs.declared.entry.Entry.{Entry}
use Rattle.transcript.specs.declared.entry.Entry.TheVariants.{Found, SearchRefused}
use Rattle.transcript.specs.declared.entry.SearchReason.TheVariants.{OutOfMemory}
use Rattle.steps.specs.Rows.{Row, searches_of}

-- The entries, and for each search, by its number from 1, the place of its entry among them.
pub record CollectedState : Type 0 where
  pub entries : List Entry
  pub places : List ℕ

-- the number of the search that the entry is of, or 0
abbrev pub number_in : Entry → ℕ
number_in (Found number reader turn answer) = number
number_in (SearchRefused number why) = number
number_in entry = 0

-- the place, if the entry is that of a search
abbrev pub place_in : ℕ → Entry → List ℕ
place_in at (Found number reader turn answer) = at ∷ []
place_in at (SearchRefused number why) = at ∷ []
place_in at entry = []

-- with one more entry
abbrev pub pushed : Entry → CollectedState → CollectedState
pushed entry c = record { entries = c.entries ++ entry ∷ []; places = c.places ++ place_in (length c.entries) entry }

-- with another entry for the search of its number
abbrev pub filled : Entry → CollectedState → CollectedState
filled entry c = record c { entries = slice_set c.entries (slice_index_or c.places (number_in entry - 1) (length c.entries)) entry }

-- An open search has the refusal for want of memory, until it gets its entry.
abbrev pub slot_by : Option Entry → ℕ → ℕ → List Entry
slot_by (Some entry) searches number = entry ∷ []
slot_by None zero number = []
slot_by None (suc searches) number = SearchRefused number OutOfMemory ∷ []

-- the entry that a row has among those of the run, after so many searches
abbrev pub slot_of : ℕ → Row → List Entry
slot_of count row = slot_by row.entry (searches_of row.numbered.item) (count + 1)

-- the entries of rows, after so many searches
abbrev pub slots_from : ℕ → List Row → List Entry
slots_from count [] = []
slots_from count (row ∷ rows) = slot_of count row ++ slots_from (count + searches_of row.numbered.item) rows

-- the place of a search, if the item is one
abbrev pub place_by : ℕ → ℕ → List ℕ
place_by at zero = []
place_by at (suc searches) = at ∷ []

-- the places of their searches, after so many entries and so many searches
abbrev pub places_from : ℕ → ℕ → List Row → List ℕ
places_from at count [] = []
places_from at count (row ∷ rows) =
    place_by at (searches_of row.numbered.item) ++ places_from (at + length (slot_of count row)) (count + searches_of row.numbered.item) rows

-- The entries of these rows are collected.
pub record IsCollected (rows : List Row) (c : CollectedState) : Type 0 where
  pub entries : c.entries ≡ slots_from 0 rows
  pub places : c.places ≡ places_from 0 0 rows

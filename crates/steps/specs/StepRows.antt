-- The rows of a run between two steps: each item that was taken, with its entry if it has one by now.
use Rattle.std.specs.Prelude.{◌≡◌, ℕ, ◌+◌, ◌≤◌, List, [], ◌∷◌, ◌++◌, length, map, flat_map, Option, Some, None, false, Contains}
use Rattle.std.specs.List.{AllByRecursion}
use Rattle.prepare.specs.Request.{Request}
use Rattle.views.specs.Shown.{Shown}
use Rattle.script.specs.Items.{Item, Numbered, search, search_in, find}
use Rattle.transcript.specs.declared.entry.Entry.{Entry}
use Rattle.transcript.specs.declared.entry.Entry.TheVariants.{Found, SearchRefused}
use Rattle.transcript.specs.declared.entry.SearchReason.{SearchReason}
use Rattle.steps.specs.Rows.{Row, list_of, commands_of, version_in, published_in, last_or, is_sync, searches_of, count_searches}
use Rattle.steps.specs.Asked.{Asks}
use Rattle.steps.specs.LegalRows.{Limits, IsLegalRow}
use Rattle.steps.specs.Steps.{RunState, OpenSearch, Given, AreTurned, given, latest}

-- the row with this entry
abbrev pub with_its_entry : Entry → Row → Row
with_its_entry entry row = record row { entry = Some entry }

-- the number of the search that an entry answers or refuses
pub data IsOfSearch (number : ℕ) : Entry → Type 0 where
  found : (reader turn : ℕ) (answer : Shown) → IsOfSearch number (Found number reader turn answer)
  refused : (why : SearchReason) → IsOfSearch number (SearchRefused number why)

-- 1 if the entry is that of a search, and otherwise 0
abbrev pub searches_in : Entry → ℕ
searches_in (Found number reader turn answer) = 1
searches_in (SearchRefused number why) = 1
searches_in entry = 0

-- If the row has an entry, it is that of a search exactly if its item is a search.
abbrev pub HasOwnEntry : Row → Type 0
HasOwnEntry row = (entry : Entry) → row.entry ≡ Some entry → searches_in entry ≡ searches_of row.numbered.item

-- The rows after one more step: one row more, for the item that was taken; or an open search has got its entry; or both, at
-- a cancel.
pub data AreNext (rows : List Row) (taken : List Numbered) (written : List Entry) (rows' : List Row) : Type 0 where
  more : (row : Row) → HasOwnEntry row → taken ≡ row.numbered ∷ [] → written ≡ list_of row.entry → rows' ≡ rows ++ row ∷ [] → AreNext rows taken written rows'
  filled : (before : List Row) (row : Row) (after : List Row) (entry : Entry) → rows ≡ before ++ row ∷ after → row.entry ≡ None
      → searches_of row.numbered.item ≡ 1 → IsOfSearch (count_searches before + 1) entry → taken ≡ [] → written ≡ entry ∷ []
      → rows' ≡ before ++ with_its_entry entry row ∷ after → AreNext rows taken written rows'
  both : (before : List Row) (row : Row) (after : List Row) (entry : Entry) (next : Row) → rows ≡ before ++ row ∷ after → row.entry ≡ None
      → searches_of row.numbered.item ≡ 1 → IsOfSearch (count_searches before + 1) entry → taken ≡ next.numbered ∷ [] → written ≡ entry ∷ []
      → next.entry ≡ None → searches_of next.numbered.item ≡ 0 → rows' ≡ before ++ with_its_entry entry row ∷ (after ++ next ∷ [])
      → AreNext rows taken written rows'

-- an entry, unless it is that of a search
abbrev pub unless_of_search : Option Entry → Option Entry
unless_of_search (Some (Found number reader turn answer)) = None
unless_of_search (Some (SearchRefused number why)) = None
unless_of_search entry = entry

-- the row without its entry, if that is the entry of a search
abbrev pub unanswered_row : Row → Row
unanswered_row row = record row { entry = unless_of_search row.entry }

-- the rows without the entries of their searches
abbrev pub unanswered : List Row → List Row
unanswered rows = map unanswered_row rows

-- an open search, by its parts
abbrev pub open_search : ℕ → Item → ℕ → OpenSearch
open_search number item least = record { number = number; item = item; least = least }

-- the search that an item asks, if it has no entry. count, least: the searches before it, and the version published last
abbrev pub open_of : ℕ → ℕ → Item → Option Entry → List OpenSearch
open_of count least (search case text) None = open_search (count + 1) (search case text) least ∷ []
open_of count least (search_in case name_text text) None = open_search (count + 1) (search_in case name_text text) least ∷ []
open_of count least (find text) None = open_search (count + 1) (find text) least ∷ []
open_of count least item entry = []

-- the searches that have no entry, in their order
abbrev pub open_in : ℕ → ℕ → List Row → List OpenSearch
open_in count least [] = []
open_in count least (row ∷ rows) =
    open_of count least row.numbered.item row.entry
    ++ open_in (count + searches_of row.numbered.item) (last_or least (version_in row.entry)) rows

-- the answer of an entry, if it is one
abbrev pub given_in : Option Entry → List Given
given_in (Some (Found number reader turn answer)) = given reader turn answer.version ∷ []
given_in entry = []

-- the answers of rows
abbrev pub given_of : List Row → List Given
given_of rows = flat_map (λ row. given_in row.entry) rows

-- numbers that never fall, from the first one on
abbrev pub Rises : ℕ → List ℕ → Type 0
Rises from [] = Unit {0}
Rises from (x ∷ xs) = (from ≤ x) × Rises x xs

-- None of the rows is a sync.
abbrev pub HasNoSync : List Row → Type 0
HasNoSync [] = Unit {0}
HasNoSync (row ∷ rows) = (is_sync row.numbered.item ≡ false) × HasNoSync rows

-- The row's entry is legal, whatever rows follow, if no version that they publish is older. Or the row is an open search,
-- which asks for something: no sync follows it, and without readers nothing does. front, back: the rows before and after it, unanswered.
pub data Stands (Holds : List ℕ → List ℕ → Type 0) (limits : Limits) (readers : ℕ) (front : List Row) (row : Row) (back : List Row) : Type 0 where
  legal : ((before after more : List Row) → unanswered before ≡ front → unanswered after ≡ back ++ more
      → Rises 0 (published_in (before ++ row ∷ after))
      → IsLegalRow Holds limits (record { readers = readers; before = before; row = row; after = after }))
      → Stands Holds limits readers front row back
  waits : (request : Request) → Asks row.numbered.item request → row.entry ≡ None → HasNoSync back → (readers ≡ 0 → back ≡ [])
      → Stands Holds limits readers front row back

-- Any two of the answers are in turn, if one reader gave both.
abbrev pub AllTurned : List Given → Type 0
AllTurned [] = Unit {0}
AllTurned (first ∷ others) = AllByRecursion (AreTurned first) others × AllTurned others

-- The rows of a run in this state.
pub record AreRows (Holds : List ℕ → List ℕ → Type 0) (limits : Limits) (readers : ℕ) (s : RunState) (rows : List Row) : Type 0 where
  pub accepted : s.accepted ≡ commands_of rows
  pub published : s.published ≡ published_in rows
  pub rises : Rises 0 s.published
  pub within : latest s ≤ length s.accepted
  pub searches : s.searches ≡ count_searches rows
  pub awaited : s.awaited ≡ open_in 0 0 rows
  pub stand : (before : List Row) (row : Row) (after : List Row) → rows ≡ before ++ row ∷ after
      → Stands Holds limits readers (unanswered before) row (unanswered after)
  pub turns : AllTurned (given_of rows)
  pub noted : AllByRecursion (Contains s.answers) (given_of rows)

-- What entries say, in the order of writing.
use Rattle.std.specs.Prelude.{◌≡◌, ℕ, ◌<◌, ◌≤◌, ◌⊎◌, ◌==◌, Bool, true, false, count_by, sum_by, List, [], ◌∷◌, ◌++◌, flat_map, Some, Contains}
use Rattle.views.specs.Shown.{Shown}
use Rattle.script.specs.Items.{Item, Numbered, put, load, remove, remove_under, copy_under, publish, search, search_in, find, sync, cancel}
use Rattle.transcript.specs.declared.entry.Entry.{Entry}
use Rattle.transcript.specs.declared.entry.Entry.TheVariants.{Accepted, Refused, Published, Found, SearchRefused, Status}
use Rattle.steps.specs.Rows.{version_in, failures_in, searches_of}
use Rattle.steps.specs.LegalRows.{IsInTurn, Limits}
use Rattle.steps.specs.Steps.{RunState, Runs}

-- whether the entry answers or refuses the search of this number
abbrev pub is_of : ℕ → Entry → Bool
is_of number (Found other reader turn answer) = other == number
is_of number (SearchRefused other why) = other == number
is_of number entry = false

-- how many entries the search of this number has
abbrev pub count_of : ℕ → List Entry → ℕ
count_of number entries = count_by (is_of number) entries

-- how many loads were refused because the source failed
abbrev pub failures_of : List Entry → ℕ
failures_of entries = sum_by (λ entry. failures_in (Some entry)) entries

-- the versions that were published, first to last
abbrev pub versions_of : List Entry → List ℕ
versions_of entries = flat_map (λ entry. version_in (Some entry)) entries

-- how many searches there are
abbrev pub searches_among : List Numbered → ℕ
searches_among items = sum_by (λ item. searches_of item.item) items

-- the line that an entry names, if it is not that of a search
abbrev pub line_in : Entry → List ℕ
line_in (Accepted line commands) = line ∷ []
line_in (Refused line why) = line ∷ []
line_in (Published line version) = line ∷ []
line_in (Status line version documents bytes accepted most waiting) = line ∷ []
line_in entry = []

-- the lines that entries name, without those of searches
abbrev pub lines_in : List Entry → List ℕ
lines_in entries = flat_map line_in entries

-- the line of an item that is neither a search nor a sync
abbrev pub command_line : ℕ → Item → List ℕ
command_line line (search case text) = []
command_line line (search_in case name_text text) = []
command_line line (find text) = []
command_line line sync = []
command_line line item = line ∷ []

-- whether the item is a cancel
abbrev pub is_cancel : Item → Bool
is_cancel (cancel number) = true
is_cancel item = false

-- Entries that are not of searches name these lines, in the order of their items: a search and a sync have none, and a
-- cancel may have none.
pub data HaveLines : List Numbered → List ℕ → Type 0 where
  no_items : HaveLines [] []
  one_more : {items items' : List Numbered} {lines lines' : List ℕ} (item : Numbered) → HaveLines items lines
      → items' ≡ items ++ item ∷ [] → lines' ≡ lines ++ command_line item.line item.item → HaveLines items' lines'
  left_out : {items items' : List Numbered} {lines : List ℕ} (item : Numbered) → HaveLines items lines → is_cancel item.item ≡ true
      → items' ≡ items ++ item ∷ [] → HaveLines items' lines

-- These entries begin with what legal steps write that take these items.
pub record HasTaken (Holds : List ℕ → List ℕ → Type 0) (limits : Limits) (readers : ℕ) (from : RunState) (items : List Numbered) (entries : List Entry) : Type 0 where
  pub written : List Entry
  pub others : List Entry
  pub state : RunState
  pub runs : Runs Holds limits readers from items written state
  pub whole : entries ≡ written ++ others

-- whether memory may run out for an item that is no search
abbrev pub takes_memory : Item → Bool
takes_memory (put name body) = true
takes_memory (load name path) = true
takes_memory (remove name) = true
takes_memory (remove_under prefix) = true
takes_memory (copy_under from to) = true
takes_memory publish = true
takes_memory item = false

-- An answer that comes after these entries: its version is among those published before it, or 0. What the same reader
-- answered before it has another turn: an earlier one and no later version, or a later one and no earlier version.
pub record IsInOrder (before : List Entry) (reader turn : ℕ) (answer : Shown) : Type 0 where
  pub published : (answer.version ≡ 0) ⊎ Contains (versions_of before) answer.version
  pub in_turn : (number' turn' : ℕ) (answer' : Shown) → Contains before (Found number' reader turn' answer')
      → IsInTurn turn' turn answer'.version answer.version

-- A run of a script as rows: each item with its entry and, if it is a load, what the source answered.
use Rattle.std.specs.Prelude.{ℕ, ◌+◌, Bool, true, false, option_map, if◌then◌else◌, List, [], ◌∷◌, ◌++◌, map, flat_map, Option, Some, None}
use Rattle.documents.specs.declared.command.Command.{Command}
use Rattle.documents.specs.declared.command.Command.TheVariants.{Put, Remove, RemoveUnder, CopyUnder}
use Rattle.script.specs.Items.{Item, Numbered, put, load, remove, remove_under, copy_under, search, search_in, find, sync}
use Rattle.transcript.specs.declared.entry.Entry.{Entry}
use Rattle.transcript.specs.declared.entry.Reason.TheVariants.{CannotLoad}
use Rattle.transcript.specs.declared.entry.Entry.TheVariants.{Accepted, Refused, Published}

-- loaded: the bytes that the source returned for a load, if it did not fail.
-- entry: a sync has none, and neither has a cancel of a search that was asked.
pub record Row : Type 0 where
  pub numbered : Numbered
  pub loaded : Option (List ℕ)
  pub entry : Option Entry

-- the items of rows
abbrev pub items_of : List Row → List Numbered
items_of rows = map (λ r. r.numbered) rows

-- the value as a list, which is empty if there is none
abbrev pub list_of : {A : Type 0} → Option A → List A
list_of None = []
list_of (Some x) = x ∷ []

-- the entries of rows
abbrev pub entries_of : List Row → List Entry
entries_of rows = flat_map (λ r. list_of r.entry) rows

-- the command of an item, with the bytes that were loaded
abbrev pub command_of : Item → Option (List ℕ) → List Command
command_of (put name body) loaded = Put name body ∷ []
command_of (load name path) None = []
command_of (load name path) (Some body) = Put name body ∷ []
command_of (remove name) loaded = Remove name ∷ []
command_of (remove_under prefix) loaded = RemoveUnder prefix ∷ []
command_of (copy_under from to) loaded = CopyUnder from to ∷ []
command_of _ loaded = []

-- the command, if the entry accepts it
abbrev pub accepted_by : Option Entry → List Command → List Command
accepted_by (Some (Accepted line commands)) command = command
accepted_by _ command = []

-- the commands that were accepted
unfoldable pub commands_of : List Row → List Command
commands_of [] = []
commands_of (row ∷ rows) = accepted_by row.entry (command_of row.numbered.item row.loaded) ++ commands_of rows

-- the version that an entry publishes, if it publishes one
abbrev pub version_in : Option Entry → List ℕ
version_in (Some (Published line version)) = version ∷ []
version_in _ = []

-- the versions that were published, first to last
unfoldable pub published_in : List Row → List ℕ
published_in [] = []
published_in (row ∷ rows) = version_in row.entry ++ published_in rows

-- the last of a list, or the default if the list is empty
abbrev pub last_or : ℕ → List ℕ → ℕ
last_or default [] = default
last_or default (x ∷ xs) = last_or x xs

-- the version that was published last, or 0 before any publish
abbrev pub published_last : List Row → ℕ
published_last rows = last_or 0 (published_in rows)

-- whether the item is a sync
abbrev pub is_sync : Item → Bool
is_sync sync = true
is_sync _ = false

-- the rows before the first sync, if there is one
unfoldable pub before_sync : List Row → Option (List Row)
before_sync [] = None
before_sync (row ∷ rows) = if is_sync row.numbered.item then Some [] else option_map (λ front. row ∷ front) (before_sync rows)

-- 1 if the item is a search, and otherwise 0
abbrev pub searches_of : Item → ℕ
searches_of (search case pattern) = 1
searches_of (search_in case name_pattern pattern) = 1
searches_of (find text) = 1
searches_of _ = 0

-- how many searches the rows have
unfoldable pub count_searches : List Row → ℕ
count_searches [] = 0
count_searches (row ∷ rows) = searches_of row.numbered.item + count_searches rows

-- 1 if the entry refuses a load because the source failed, and otherwise 0
abbrev pub failures_in : Option Entry → ℕ
failures_in (Some (Refused line CannotLoad)) = 1
failures_in _ = 0

-- how many loads were refused because the source failed
unfoldable pub count_failures : List Row → ℕ
count_failures [] = 0
count_failures (row ∷ rows) = failures_in row.entry + count_failures rows

-- Which rows are legal: which entry each item of a run may have, whatever the readers and their timing.
use Rattle.std.specs.Prelude.{◌≡◌, ◌≢◌, ℕ, ◌+◌, ◌-◌, ◌^◌, ◌<◌, ◌≤◌, ◌⊎◌, List, ◌∷◌, ◌++◌, length, map, take, Option, Some, None, option_map, IfSome}
use Rattle.std.specs.Prelude.{Contains, if◌then◌else◌, ◌==◌, Bool, false, true, unwrap_or}
use Rattle.std.specs.FinMap.{len}
use Rattle.documents.specs.declared.error.NameError.{NameError}
use Rattle.documents.specs.declared.error.NameError.TheVariants as name_error
use Rattle.documents.specs.declared.error.BodyErrorKind.{BodyErrorKind}
use Rattle.documents.specs.declared.command.Command.{Command}
use Rattle.documents.specs.declared.lengths.Lengths.{Lengths}
use Rattle.documents.specs.Documents.{Documents, is_taken, has_under, has_long_copy}
use Rattle.documents.specs.State.{State, state_of, body_bytes}
use Rattle.documents.specs.Text.{IsNameOf, IsNameFault, most_name_bytes, IsBodyOf, IsBodyFault}
use Rattle.prepare.specs.Request.{Request}
use Rattle.views.specs.ShownOf.{IsShownOf}
use Rattle.views.specs.Shown.{Shown}
use Rattle.script.specs.Items.{Item, put, load, remove, remove_under, copy_under, publish, search, search_in, find, sync, cancel, status, bad_line, bad_put, truncated, body_not_closed}
use Rattle.transcript.specs.declared.entry.Entry.{Entry}
use Rattle.transcript.specs.declared.entry.Entry.TheVariants.{Accepted, Refused, Published, Found, SearchRefused, Status}
use Rattle.transcript.specs.declared.entry.Reason.TheVariants as reason
use Rattle.transcript.specs.declared.entry.SearchReason.{SearchReason}
use Rattle.transcript.specs.declared.entry.SearchReason.TheVariants as search_reason
use Rattle.steps.specs.Asked.{Asks, IsFaultOf}
use Rattle.steps.specs.Rows.{Row, commands_of, published_in, published_last, before_sync, count_searches}

-- What bounds a run. commands: how many commands are accepted at most. lengths: how long names, bodies and lines may be.
-- timed: whether searches have a limit of time.
pub record Limits : Type 0 where
  pub commands : ℕ
  pub lengths : Lengths
  pub timed : Bool

-- What becomes of a command in which nothing is wrong: it is accepted if there is room for it.
pub data IsRoomFor (most : ℕ) (state : State) (line : ℕ) (entry : Entry) : Type 0 where
  full : state.version ≡ most → entry ≡ Refused line reason.Full → IsRoomFor most state line entry
  accepted : state.version < most → entry ≡ Accepted line (state.version + 1) → IsRoomFor most state line entry

-- Faults of a name come first. Only a command with a valid name can be refused for memory. longest: how long a name may be.
pub data IsNamed (longest : ℕ) (name : List ℕ) (line : ℕ) (entry : Entry) (Else : Type 0) : Type 0 where
  bad_name : (fault : NameError) → (fault ≡ name_error.OutOfMemory → ⊥) → IsNameFault longest fault name
      → entry ≡ Refused line (reason.Name fault) → IsNamed longest name line entry Else
  no_memory : IsNameOf longest name → entry ≡ Refused line reason.OutOfMemory → IsNamed longest name line entry Else
  named : IsNameOf longest name → Else → IsNamed longest name line entry Else

-- then faults of the body, then lack of room
pub data HasBody (lengths : Lengths) (most : ℕ) (state : State) (body : List ℕ) (line : ℕ) (entry : Entry) : Type 0 where
  bad_body : (fault : BodyErrorKind) → IsBodyFault lengths fault body → entry ≡ Refused line (reason.Body fault)
      → HasBody lengths most state body line entry
  with_body : IsBodyOf lengths body → IsRoomFor most state line entry → HasBody lengths most state body line entry

-- What the entry of a put may be: the name has a fault or, if not, the body has one, there is no room, or the put is accepted.
abbrev pub IsPut : Lengths → ℕ → State → List ℕ → List ℕ → ℕ → Entry → Type 0
IsPut lengths most state name body line entry = IsNamed lengths.name name line entry (HasBody lengths most state body line entry)

-- A load has one outcome: it cannot load, since the source failed, or the source held the loaded bytes under the path.
pub data HasLoaded (Holds : List ℕ → List ℕ → Type 0) (lengths : Lengths) (most : ℕ) (state : State) (path : List ℕ) (loaded : Option (List ℕ))
    (line : ℕ) (entry : Entry) : Type 0 where
  failed : loaded ≡ None → entry ≡ Refused line reason.CannotLoad → HasLoaded Holds lengths most state path loaded line entry
  loaded_body : (body : List ℕ) → loaded ≡ Some body → Holds path body → HasBody lengths most state body line entry
      → HasLoaded Holds lengths most state path loaded line entry

-- A remove needs a document to be removed. found: whether there is one, after all accepted commands.
pub data IsRemove (most : ℕ) (state : State) (found : Bool) (line : ℕ) (entry : Entry) : Type 0 where
  no_such_file : found ≡ false → entry ≡ Refused line reason.NoSuchFile → IsRemove most state found line entry
  is_there : found ≡ true → IsRoomFor most state line entry → IsRemove most state found line entry

-- A copy needs a document to be copied, and no name may become too long. longest: how long a name may be.
pub data IsCopy (longest most : ℕ) (state : State) (from to : List ℕ) (line : ℕ) (entry : Entry) : Type 0 where
  none_to_copy : has_under from state.documents ≡ false → entry ≡ Refused line reason.NoSuchFile → IsCopy longest most state from to line entry
  too_long : has_under from state.documents ≡ true → has_long_copy (most_name_bytes longest) from to state.documents ≡ true
      → entry ≡ Refused line (reason.Name name_error.TooLong) → IsCopy longest most state from to line entry
  can_copy : has_under from state.documents ≡ true → has_long_copy (most_name_bytes longest) from to state.documents ≡ false
      → IsRoomFor most state line entry → IsCopy longest most state from to line entry

-- What the entry of a publish may be: the version of the commands accepted so far, or the refusal for memory.
pub data IsPublish (state : State) (line : ℕ) (entry : Entry) : Type 0 where
  published : entry ≡ Published line state.version → IsPublish state line entry
  no_memory : entry ≡ Refused line reason.OutOfMemory → IsPublish state line entry

-- A row, the rows before and after it, and how many readers there are.
pub record Context : Type 0 where
  pub readers : ℕ
  pub before : List Row
  pub row : Row
  pub after : List Row

-- the row with those before and after it
abbrev pub all_rows : Context → List Row
all_rows context = context.before ++ context.row ∷ context.after

-- the state that the commands accepted before a row leave
abbrev pub state_before : Context → State
state_before context = state_of (commands_of context.before)

-- The newest version that an answer can have: the one published last before the first sync after the search or,
-- without readers, before the search itself. With readers and without a sync after the search, there is no such bound.
abbrev pub newest_allowed : Context → Option ℕ
newest_allowed context =
    if context.readers == 0 then Some (published_last context.before)
    else option_map (λ rows. published_last (context.before ++ context.row ∷ rows)) (before_sync context.after)

-- An answer of a published version (0 counts as published), no older than what was published before the search and no newer
-- than is allowed, which shows exactly what is asked for of the lines with a
-- match in the documents after that version's commands.
pub record IsAnswered (context : Context) (request : Request) (reader : ℕ) (answer : Shown) : Type 0 where
  pub published : (answer.version ≡ 0) ⊎ Contains (published_in (all_rows context)) answer.version
  pub not_older : published_last context.before ≤ answer.version
  pub exact : IsShownOf (state_of (take answer.version (commands_of (all_rows context)))) request answer
  pub one_of_them : reader ≤ context.readers
  pub not_newer : IfSome (newest_allowed context) (λ version. answer.version ≤ version)

-- the number of a search, from 1
abbrev pub search_number : Context → ℕ
search_number context = count_searches context.before + 1

-- the rows before the first sync, or all of them
abbrev pub until_sync : List Row → List Row
until_sync rows = unwrap_or (before_sync rows) rows

-- One of the rows is a cancel of the search of this number.
abbrev pub HasCancel : ℕ → List Row → Type 0
HasCancel number rows = Contains (map (λ r. r.numbered.item) rows) (cancel number)

-- What becomes of a search that was taken, and asks for this. It is refused for memory; or at a cancel that follows it,
-- with readers and no sync in between; or as too slow, if searches have a limit of time. Or it is answered.
pub data IsSearched (limits : Limits) (context : Context) (request : Request) (entry : Entry) : Type 0 where
  no_memory : entry ≡ SearchRefused (search_number context) search_reason.OutOfMemory → IsSearched limits context request entry
  cancelled : entry ≡ SearchRefused (search_number context) search_reason.Cancelled → 0 < context.readers
      → HasCancel (search_number context) (until_sync context.after) → IsSearched limits context request entry
  too_slow : entry ≡ SearchRefused (search_number context) search_reason.TooSlow → limits.timed ≡ true → IsSearched limits context request entry
  found : (reader turn : ℕ) (answer : Shown) → entry ≡ Found (search_number context) reader turn answer
      → IsAnswered context request reader answer → IsSearched limits context request entry

-- A search is refused when it is taken, for its texts or for memory. Or what it asks for can be read, and is searched for.
pub data IsSearch (limits : Limits) (context : Context) (item : Item) (entry : Entry) : Type 0 where
  refused : (why : SearchReason) → IsFaultOf item why → entry ≡ SearchRefused (search_number context) why → IsSearch limits context item entry
  searched : (request : Request) → Asks item request → IsSearched limits context request entry → IsSearch limits context item entry

-- The search of this number was asked, of so many.
abbrev pub WasAsked : ℕ → ℕ → Type 0
WasAsked number searches = (0 < number) × (number ≤ searches)

-- No search of this number was asked, of so many.
abbrev pub WasNotAsked : ℕ → ℕ → Type 0
WasNotAsked number searches = (number ≡ 0) ⊎ (searches < number)

-- A cancel has an entry only if no search of its number was asked.
pub record IsUnknown (number searches line : ℕ) (entry : Entry) : Type 0 where
  pub not_asked : WasNotAsked number searches
  pub refused : entry ≡ Refused line reason.NoSuchSearch

-- the documents after the commands of this version
abbrev pub documents_at : ℕ → List Command → Documents
documents_at version commands = (state_of (take version commands)).documents

-- The entry of a status: the version that was published last, how many documents it has and how many bytes they have, how
-- many commands are accepted and how many can be at most, and how many searches are open.
abbrev pub status_entry : ℕ → ℕ → List Command → ℕ → ℕ → Entry
status_entry line version commands most waiting =
    Status line version (len (documents_at version commands)) (body_bytes (documents_at version commands)) (length commands) most waiting

-- The searches that are open at a status are among those before it, and without readers there are none. How many they are
-- is said by the steps, as they depend on when searches get their entries.
pub record IsStatus (limits : Limits) (context : Context) (line : ℕ) (entry : Entry) : Type 0 where
  pub waiting : ℕ
  pub few : waiting ≤ count_searches context.before
  pub alone : context.readers ≡ 0 → waiting ≡ 0
  pub shown : entry ≡ status_entry line (published_last context.before) (commands_of context.before) limits.commands waiting

-- A command, a publish or a fault of the script can have this entry, in this state of the documents.
abbrev pub IsCommandEntry : (List ℕ → List ℕ → Type 0) → Lengths → ℕ → State → Option (List ℕ) → ℕ → Item → Entry → Type 0
IsCommandEntry Holds lengths most state loaded line (put name body) entry = IsPut lengths most state name body line entry
IsCommandEntry Holds lengths most state loaded line (load name path) entry = IsNamed lengths.name name line entry (HasLoaded Holds lengths most state path loaded line entry)
IsCommandEntry Holds lengths most state loaded line (remove name) entry = IsNamed lengths.name name line entry (IsRemove most state (is_taken name state.documents) line entry)
IsCommandEntry Holds lengths most state loaded line (remove_under prefix) entry = IsNamed lengths.name prefix line entry (IsRemove most state (has_under prefix state.documents) line entry)
IsCommandEntry Holds lengths most state loaded line (copy_under from to) entry =
    IsNamed lengths.name from line entry (IsNamed lengths.name to line entry (IsCopy lengths.name most state from to line entry))
IsCommandEntry Holds lengths most state loaded line publish entry = IsPublish state line entry
IsCommandEntry Holds lengths most state loaded line (search case text) entry = ⊥
IsCommandEntry Holds lengths most state loaded line (search_in case name_text text) entry = ⊥
IsCommandEntry Holds lengths most state loaded line (find text) entry = ⊥
IsCommandEntry Holds lengths most state loaded line sync entry = ⊥
IsCommandEntry Holds lengths most state loaded line (cancel number) entry = ⊥
IsCommandEntry Holds lengths most state loaded line status entry = ⊥
IsCommandEntry Holds lengths most state loaded line bad_line entry = entry ≡ Refused line reason.BadLine
IsCommandEntry Holds lengths most state loaded line bad_put entry = entry ≡ Refused line reason.BadPut
IsCommandEntry Holds lengths most state loaded line truncated entry = entry ≡ Refused line reason.Truncated
IsCommandEntry Holds lengths most state loaded line body_not_closed entry = entry ≡ Refused line reason.BodyNotClosed

-- In this context, the item can have this entry.
unfoldable pub IsEntryOf : (List ℕ → List ℕ → Type 0) → Limits → Context → ℕ → Item → Entry → Type 0
IsEntryOf Holds limits context line (search case text) entry = IsSearch limits context (search case text) entry
IsEntryOf Holds limits context line (search_in case name_text text) entry = IsSearch limits context (search_in case name_text text) entry
IsEntryOf Holds limits context line (find text) entry = IsSearch limits context (find text) entry
IsEntryOf Holds limits context line (cancel number) entry = IsUnknown number (count_searches context.before) line entry
IsEntryOf Holds limits context line status entry = IsStatus limits context line entry
IsEntryOf Holds limits context line item entry = IsCommandEntry Holds limits.lengths limits.commands (state_before context) context.row.loaded line item entry

-- A sync has no entry, and neither has a cancel of a search that was asked. Every other item has one.
abbrev pub HasEntry : (List ℕ → List ℕ → Type 0) → Limits → Context → Item → Option Entry → Type 0
HasEntry Holds limits context sync None = Unit {0}
HasEntry Holds limits context sync (Some entry) = ⊥
HasEntry Holds limits context (cancel number) None = WasAsked number (count_searches context.before)
HasEntry Holds limits context item None = ⊥
HasEntry Holds limits context item (Some entry) = IsEntryOf Holds limits context context.row.numbered.line item entry

-- The entry of the row is one that its item may have, or it has none where it may have none.
abbrev pub IsLegalRow : (List ℕ → List ℕ → Type 0) → Limits → Context → Type 0
IsLegalRow Holds limits context = HasEntry Holds limits context context.row.numbered.item context.row.entry

-- The turns of one reader are distinct, and as they rise, its versions never fall.
pub record IsInTurn (first second : ℕ) (first_version second_version : ℕ) : Type 0 where
  pub distinct : first ≢ second
  pub rises : first < second → first_version ≤ second_version
  pub falls : second < first → second_version ≤ first_version

abbrev pub AreInTurn : List Row → Type 0
AreInTurn rows =
    (before middle after : List Row) (row row' : Row) (reader number turn number' turn' : ℕ) (answer answer' : Shown)
    → rows ≡ before ++ row ∷ (middle ++ row' ∷ after)
    → row.entry ≡ Some (Found number reader turn answer)
    → row'.entry ≡ Some (Found number' reader turn' answer')
    → IsInTurn turn turn' answer.version answer'.version

-- The greatest count of failures that a source can report.
abbrev pub greatest_failures : ℕ
greatest_failures = 2 ^ 64 - 1

-- A source's count rose by this number of failures, or as far as the greatest count.
abbrev pub IsFailedTimes : ℕ → ℕ → ℕ → Type 0
IsFailedTimes failures before after = (failures + before ≡ after) ⊎ ((after ≡ greatest_failures) × (greatest_failures ≤ failures + before))

-- Which entries may be written for which items, in which order, whatever the readers and their timing.
use Rattle.std.specs.Prelude.{◌≡◌, ◌≢◌, ℕ, ◌+◌, ◌<◌, ◌≤◌, ◌⊎◌, List, [], ◌∷◌, ◌++◌, length, take, drop}
use Rattle.std.specs.Prelude.{Option, Some, Contains, slice_get, false, true, All}
use Rattle.documents.specs.declared.command.Command.{Command}
use Rattle.documents.specs.State.{state_of}
use Rattle.prepare.specs.Request.{Request}
use Rattle.views.specs.ShownOf.{IsShownOf}
use Rattle.views.specs.Shown.{Shown}
use Rattle.script.specs.Items.{Item, Numbered, cancel, status}
use Rattle.transcript.specs.declared.entry.Entry.{Entry}
use Rattle.transcript.specs.declared.entry.Entry.TheVariants.{Refused, Found, SearchRefused}
use Rattle.transcript.specs.declared.entry.Reason.TheVariants.{NoSuchSearch}
use Rattle.transcript.specs.declared.entry.SearchReason.{SearchReason}
use Rattle.transcript.specs.declared.entry.SearchReason.TheVariants as reason
use Rattle.steps.specs.Rows.{command_of, accepted_by, version_in, last_or, is_sync}
use Rattle.steps.specs.Asked.{Asks, IsFaultOf}
use Rattle.steps.specs.LegalRows.{Limits, IsCommandEntry, IsInTurn, WasAsked, WasNotAsked, status_entry}

-- A search that has no entry yet: its number, from 1, what it asks for, and the version that was published last when it
-- was asked.
pub record OpenSearch : Type 0 where
  pub number : ℕ
  pub item : Item
  pub least : ℕ

-- an answer of a reader: in which of its turns it was given, and from which version
pub record Given : Type 0 where
  pub reader : ℕ
  pub turn : ℕ
  pub version : ℕ

-- an answer, by its parts
abbrev pub given : ℕ → ℕ → ℕ → Given
given reader turn version = record { reader = reader; turn = turn; version = version }

-- If one reader gave both answers, they are in turn.
abbrev pub AreTurned : Given → Given → Type 0
AreTurned first second = first.reader ≡ second.reader → IsInTurn first.turn second.turn first.version second.version

-- A run between two steps. accepted: the commands that were accepted. published: the versions that were published, first
-- to last. searches: how many searches were taken. awaited: those of them that have no entry yet, in their order.
-- answers: the answers that were given.
pub record RunState : Type 0 where
  pub accepted : List Command
  pub published : List ℕ
  pub searches : ℕ
  pub awaited : List OpenSearch
  pub answers : List Given

-- the version that was published last, or 0 before any publish
abbrev pub latest : RunState → ℕ
latest s = last_or 0 s.published

-- a command, a publish or a fault of the script has this entry
abbrev pub with_entry : Item → Option (List ℕ) → Entry → RunState → RunState
with_entry item loaded entry s = record s {
  accepted = s.accepted ++ accepted_by (Some entry) (command_of item loaded);
  published = s.published ++ version_in (Some entry);
}

-- one more search was taken, and is refused at once
abbrev pub counted : RunState → RunState
counted s = record s { searches = s.searches + 1 }

-- the open search of an item that is taken now
abbrev pub asked : Item → RunState → OpenSearch
asked item s = record { number = s.searches + 1; item = item; least = latest s }

-- one more search was taken, and is open
abbrev pub with_search : Item → RunState → RunState
with_search item s = record s { searches = s.searches + 1; awaited = s.awaited ++ asked item s ∷ [] }

-- the open search at this place has its entry
abbrev pub without : ℕ → RunState → RunState
without place s = record s { awaited = take place s.awaited ++ drop (place + 1) s.awaited }

-- one more answer was given
abbrev pub with_answer : Given → RunState → RunState
with_answer answer s = record s { answers = s.answers ++ answer ∷ [] }

-- The search is open, at this place among the open ones.
abbrev pub IsOpenAt : RunState → ℕ → OpenSearch → Type 0
IsOpenAt s place wanted = slice_get s.awaited place ≡ Some wanted

-- No open search has this number.
abbrev pub IsNotOpen : RunState → ℕ → Type 0
IsNotOpen s number = All (λ search. search.number ≢ number) s.awaited

-- the entry of a status now
abbrev pub status_now : Limits → RunState → ℕ → Entry
status_now limits s line = status_entry line (latest s) s.accepted limits.commands (length s.awaited)

-- Without readers, an item is taken only when no search is open. So is a sync, whatever the readers.
pub data MayTake (readers : ℕ) (s : RunState) (item : Item) : Type 0 where
  settled : s.awaited ≡ [] → MayTake readers s item
  beside : 0 < readers → is_sync item ≡ false → MayTake readers s item

-- An answer of a version that is published by now (0 counts as published), and no older than what was published before the
-- search was asked, in a turn of its own: it is no older than what the reader answered in earlier turns, and no newer than what
-- it answered in later ones. It shows exactly what the search asks for of the lines with a match in the documents after that
-- version's commands.
pub record IsAnswerNow (readers : ℕ) (s : RunState) (search : OpenSearch) (reader turn : ℕ) (answer : Shown) : Type 0 where
  pub request : Request
  pub asks : Asks search.item request
  pub exact : IsShownOf (state_of (take answer.version s.accepted)) request answer
  pub published : (answer.version ≡ 0) ⊎ Contains s.published answer.version
  pub not_older : search.least ≤ answer.version
  pub one_of_them : reader ≤ readers
  pub in_turn : All (λ before. AreTurned before (given reader turn answer.version)) s.answers

-- One step: at most one item is taken, and at most one entry is written. Holds: what the source holds. readers: how many
-- readers there are in addition to reader 0.
pub data IsStep (Holds : List ℕ → List ℕ → Type 0) (limits : Limits) (readers : ℕ) (s : RunState) (taken : List Numbered) (written : List Entry)
    (s' : RunState) : Type 0 where
  carried_out : (item : Numbered) (loaded : Option (List ℕ)) (entry : Entry) → MayTake readers s item.item
      → IsCommandEntry Holds limits.lengths limits.commands (state_of s.accepted) loaded item.line item.item entry
      → taken ≡ item ∷ [] → written ≡ entry ∷ [] → s' ≡ with_entry item.item loaded entry s → IsStep Holds limits readers s taken written s'
  asked_for : (item : Numbered) (request : Request) → MayTake readers s item.item → Asks item.item request
      → taken ≡ item ∷ [] → written ≡ [] → s' ≡ with_search item.item s → IsStep Holds limits readers s taken written s'
  refused : (item : Numbered) (why : SearchReason) → MayTake readers s item.item → IsFaultOf item.item why
      → taken ≡ item ∷ [] → written ≡ SearchRefused (s.searches + 1) why ∷ [] → s' ≡ counted s → IsStep Holds limits readers s taken written s'
  answered : (place : ℕ) (search : OpenSearch) (reader turn : ℕ) (answer : Shown) → IsOpenAt s place search
      → IsAnswerNow readers s search reader turn answer
      → taken ≡ [] → written ≡ Found search.number reader turn answer ∷ [] → s' ≡ without place (with_answer (given reader turn answer.version) s)
      → IsStep Holds limits readers s taken written s'
  -- memory ran out for the answer
  not_answered : (place : ℕ) (search : OpenSearch) → IsOpenAt s place search
      → taken ≡ [] → written ≡ SearchRefused search.number reason.OutOfMemory ∷ [] → s' ≡ without place s
      → IsStep Holds limits readers s taken written s'
  -- the time for the answer ran out
  too_slow : (place : ℕ) (search : OpenSearch) → limits.timed ≡ true → IsOpenAt s place search
      → taken ≡ [] → written ≡ SearchRefused search.number reason.TooSlow ∷ [] → s' ≡ without place s
      → IsStep Holds limits readers s taken written s'
  -- a cancel of a search that is open, of one that has its entry, and of one that was never asked
  cancelled : (item : Numbered) (place : ℕ) (search : OpenSearch) → MayTake readers s item.item → item.item ≡ cancel search.number
      → IsOpenAt s place search → taken ≡ item ∷ [] → written ≡ SearchRefused search.number reason.Cancelled ∷ [] → s' ≡ without place s
      → IsStep Holds limits readers s taken written s'
  too_late : (item : Numbered) (number : ℕ) → MayTake readers s item.item → item.item ≡ cancel number → WasAsked number s.searches
      → IsNotOpen s number → taken ≡ item ∷ [] → written ≡ [] → s' ≡ s → IsStep Holds limits readers s taken written s'
  no_such_search : (item : Numbered) (number : ℕ) → MayTake readers s item.item → item.item ≡ cancel number → WasNotAsked number s.searches
      → taken ≡ item ∷ [] → written ≡ Refused item.line NoSuchSearch ∷ [] → s' ≡ s → IsStep Holds limits readers s taken written s'
  reported : (item : Numbered) → MayTake readers s item.item → item.item ≡ status
      → taken ≡ item ∷ [] → written ≡ status_now limits s item.line ∷ [] → s' ≡ s → IsStep Holds limits readers s taken written s'
  sync : (item : Numbered) → is_sync item.item ≡ true → s.awaited ≡ [] → taken ≡ item ∷ [] → written ≡ [] → s' ≡ s
      → IsStep Holds limits readers s taken written s'

-- Before the first item, no reader has answered.
pub record IsFirst (s : RunState) : Type 0 where
  pub accepted : s.accepted ≡ []
  pub published : s.published ≡ []
  pub searches : s.searches ≡ 0
  pub awaited : s.awaited ≡ []
  pub answers : s.answers ≡ []

-- Steps lead from one state to another. They take these items, and write these entries.
pub data Runs (Holds : List ℕ → List ℕ → Type 0) (limits : Limits) (readers : ℕ) (from : RunState) : List Numbered → List Entry → RunState → Type 0 where
  begins : Runs Holds limits readers from [] [] from
  goes_on : {items items' taken : List Numbered} {entries entries' written : List Entry} {s s' : RunState}
      → Runs Holds limits readers from items entries s → IsStep Holds limits readers s taken written s'
      → items' ≡ items ++ taken → entries' ≡ entries ++ written → Runs Holds limits readers from items' entries' s'

-- A service between two steps.
use Rattle.std.specs.Prelude.{◌≡◌, ℕ, ◌+◌, ◌⊎◌, ◌≤◌, List, [], ◌∷◌, ◌++◌, length, take, drop, flat_map, Contains}
use Rattle.std.specs.Prelude.{Some, true, slice_get}
use Rattle.documents.specs.declared.command.Command.{Command}
use Rattle.documents.specs.State.{state_of}
use Rattle.prepare.specs.Request.{Request}
use Rattle.views.specs.ShownOf.{IsShownOf}
use Rattle.views.specs.Shown.{Shown}
use Rattle.script.specs.Items.{Item, Numbered}
use Rattle.service.specs.declared.reply.Reply.{Reply}
use Rattle.service.specs.declared.reply.Reply.TheVariants as reply
use Rattle.transcript.specs.declared.entry.Entry.{Entry}
use Rattle.transcript.specs.declared.entry.Entry.TheVariants.{Found, SearchRefused}
use Rattle.transcript.specs.declared.entry.SearchReason.TheVariants as reason
use Rattle.steps.specs.LegalRows.{Limits, IsFailedTimes, greatest_failures}
use Rattle.steps.specs.Rows.{version_in, last_or, failures_in, searches_of}
use Rattle.steps.specs.StepRows.{searches_in}
use Rattle.steps.specs.Asked.{Asks}
use Rattle.steps.specs.Steps.{Given, OpenSearch, RunState, IsStep, MayTake, given}
use Rattle.service.specs.Turns.{GivesTurn, HaveTurns, StillHave, TurnsState, first_turns}

-- limits: what bounds the run. accepted: the accepted commands. told: those that were published last.
-- kept: versions that were published, of which no open search needs any other. searches, awaited: as in a run. turns: those of
-- the readers.
pub record ServiceState : Type 0 where
  pub limits : Limits
  pub accepted : List Command
  pub told : List Command
  pub kept : List ℕ
  pub searches : ℕ
  pub awaited : List OpenSearch
  pub turns : TurnsState

-- before the first item
abbrev pub first_service : Limits → ℕ → ServiceState
first_service limits readers = record {
  limits = limits;
  accepted = [];
  told = [];
  kept = 0 ∷ [];
  searches = 0;
  awaited = [];
  turns = first_turns readers;
}

-- the run that the service is in, after publishes of these versions and these answers
abbrev pub run_of : ServiceState → List ℕ → List Given → RunState
run_of service published answers = record {
  accepted = service.accepted;
  published = published;
  searches = service.searches;
  awaited = service.awaited;
  answers = answers;
}

-- These versions were published, the last of them by the last publish, and these answers were given.
pub record Fits (readers : ℕ) (service : ServiceState) (published : List ℕ) (answers : List Given) : Type 0 where
  pub latest : last_or 0 published ≡ length service.told
  pub kept : (version : ℕ) → Contains service.kept version → (version ≡ 0) ⊎ Contains published version
  pub turns : HaveTurns readers answers service.turns

-- the versions that these entries publish
abbrev pub versions_in : List Entry → List ℕ
versions_in entries = flat_map (λ entry. version_in (Some entry)) entries

-- A step of the service is a legal step of its run.
pub record Steps (Holds : List ℕ → List ℕ → Type 0) (readers : ℕ) (old : ServiceState) (published : List ℕ) (answers : List Given) (taken : List Numbered)
    (written : List Entry) (new : ServiceState) (published' : List ℕ) (answers' : List Given) : Type 0 where
  pub step : IsStep Holds old.limits readers (run_of old published answers) taken written (run_of new published' answers')
  pub fits : Fits readers new published' answers'
  pub limits : new.limits ≡ old.limits

-- An item was taken, and these entries are to be written.
abbrev pub Takes : (List ℕ → List ℕ → Type 0) → ServiceState → Numbered → List Entry → ServiceState → Type 0
Takes Holds old item written new =
    (published : List ℕ) (answers : List Given) (readers : ℕ) → Fits readers old published answers
    → MayTake readers (run_of old published answers) item.item
    → Steps Holds readers old published answers (item ∷ []) written new (published ++ versions_in written) answers

-- The answer is that of these commands, for what the search asks for.
abbrev pub IsFound : Item → List Command → Shown → Type 0
IsFound item commands answer = (request : Request) × Asks item request × IsShownOf (state_of commands) request answer

-- An answer that the open search can get: of a version that is kept, or was published last, no older than what was
-- published before the search was asked, for what the search asks for.
pub record CanStand (service : ServiceState) (search : OpenSearch) (answer : Shown) : Type 0 where
  pub request : Request
  pub asks : Asks search.item request
  pub exact : IsShownOf (state_of (take answer.version service.accepted)) request answer
  pub published : (answer.version ≡ length service.told) ⊎ Contains service.kept answer.version
  pub seen : answer.version ≤ length service.told
  pub not_older : search.least ≤ answer.version

-- the open search at this place has its entry, after these turns
abbrev pub without : ℕ → TurnsState → ServiceState → ServiceState
without place turns service = record service { awaited = take place service.awaited ++ drop (place + 1) service.awaited; turns = turns }

-- An open search got its entry: an answer, or the refusal for want of memory or of time.
pub data Gives (old : ServiceState) (entry : Entry) (new : ServiceState) : Type 0 where
  answered : (place : ℕ) (search : OpenSearch) (reader turn : ℕ) (answer : Shown) (turns : TurnsState) → slice_get old.awaited place ≡ Some search
      → CanStand old search answer → GivesTurn old.turns (given reader turn answer.version) turns → entry ≡ Found search.number reader turn answer
      → new ≡ without place turns old → Gives old entry new
  not_answered : (place : ℕ) (search : OpenSearch) (turns : TurnsState) → slice_get old.awaited place ≡ Some search → StillHave old.turns turns
      → entry ≡ SearchRefused search.number reason.OutOfMemory → new ≡ without place turns old → Gives old entry new
  too_slow : (place : ℕ) (search : OpenSearch) (turns : TurnsState) → old.limits.timed ≡ true → slice_get old.awaited place ≡ Some search
      → StillHave old.turns turns → entry ≡ SearchRefused search.number reason.TooSlow → new ≡ without place turns old → Gives old entry new

-- A turn may have been set aside for a search, or another one not be needed any more.
pub record SetsAside (old new : ServiceState) : Type 0 where
  pub still : StillHave old.turns new.turns
  pub left : new ≡ record old { turns = new.turns }

-- the entries that an item has at once
abbrev pub written_by : Reply → List Entry
written_by (reply.Entry entry) = entry ∷ []
written_by (reply.Search task) = []
written_by (reply.Cancelled entry) = entry ∷ []
written_by reply.Nothing = []

-- The task of a search has its number: so many searches have been taken by then.
abbrev pub HasNumber : ℕ → Reply → Type 0
HasNumber searches (reply.Search number) = number ≡ searches
HasNumber searches result = Unit {0}

-- A source's count rose by this number of failures, and no longer changes once it is the greatest.
pub record IsCounted (failures failed failed' : ℕ) : Type 0 where
  pub rises : IsFailedTimes failures failed failed'
  pub stays : failed ≡ greatest_failures → failed' ≡ greatest_failures

-- how many loads failed
abbrev pub failures_by : Reply → ℕ
failures_by (reply.Entry entry) = failures_in (Some entry)
failures_by (reply.Search task) = 0
failures_by (reply.Cancelled entry) = failures_in (Some entry)
failures_by reply.Nothing = 0

-- Only a search is open, or has an entry of a search. Only an item that is no search gives a search its entry.
abbrev pub IsKind : Item → Reply → Type 0
IsKind item (reply.Entry entry) = searches_in entry ≡ searches_of item
IsKind item (reply.Search task) = searches_of item ≡ 1
IsKind item (reply.Cancelled entry) = (searches_of item ≡ 0) × (searches_in entry ≡ 1)
IsKind item reply.Nothing = searches_of item ≡ 0

-- Open searches that get their entries.
use Rattle.std.specs.Prelude.{◌≡◌, ◌≢◌, ℕ, ◌+◌, ◌≤◌, List, [], ◌∷◌, ◌++◌, length, All, Bool, Some, slice_get}
use mathlib.Core.List.{IsPrefix}
use Rattle.documents.specs.declared.lengths.Lengths.{Lengths}
use Rattle.prepare.specs.Request.{Request}
use Rattle.views.specs.Shown.{Shown}
use Rattle.script.specs.Items.{Item}
use Rattle.steps.specs.LegalRows.{WasAsked, WasNotAsked}
use Rattle.steps.specs.Asked.{Asks, IsFaultOf}
use Rattle.steps.specs.Steps.{OpenSearch}
use Rattle.published.specs.Desk.{DeskState}
use Rattle.published.specs.History.{Known}
use Rattle.transcript.specs.declared.entry.Entry.{Entry}
use Rattle.transcript.specs.declared.entry.Entry.TheVariants.{Refused, SearchRefused}
use Rattle.transcript.specs.declared.entry.Reason.TheVariants.{NoSuchSearch}
use Rattle.transcript.specs.declared.entry.SearchReason.{SearchReason}
use Rattle.transcript.specs.declared.entry.SearchReason.TheVariants as search_reason
use Rattle.service.specs.Collected.{number_in}
use Rattle.service.specs.Opening.{limits_of}
use Rattle.service.specs.Service.{ServiceState, CanStand, without}
use Rattle.service.specs.Turns.{StillHave, TurnsState}
use Rattle.service.specs.declared.reply.Reply.{Reply}
use Rattle.service.specs.declared.reply.Reply.TheVariants as reply

-- What holds of every service.
pub record IsService (service : ServiceState) : Type 0 where
  pub begins : IsPrefix service.told service.accepted
  pub least : All (λ search. search.least ≤ length service.told) service.awaited
  pub few : length service.awaited ≤ service.searches

-- the service with these parts
abbrev pub service_of : DeskState → Lengths → Bool → Known → List ℕ → ℕ → List OpenSearch → TurnsState → ServiceState
service_of desk lengths timed told kept searches awaited turns = record {
  limits = limits_of desk.limit lengths timed;
  accepted = desk.accepted;
  told = told.commands;
  kept = kept;
  searches = searches;
  awaited = awaited;
  turns = turns;
}

abbrev pub with_kept : List ℕ → ServiceState → ServiceState
with_kept kept service = record service { kept = kept }

-- The search at this place can get this answer.
pub record CanClose (service : ServiceState) (place : ℕ) (answer : Shown) : Type 0 where
  pub search : OpenSearch
  pub is_open : slice_get service.awaited place ≡ Some search
  pub stands : CanStand service search answer

-- one more search was taken, and is open
abbrev pub with_search : Item → ServiceState → ServiceState
with_search item service = record service {
  searches = service.searches + 1;
  awaited = service.awaited ++ record { number = service.searches + 1; item = item; least = length service.told } ∷ [];
}

-- one more search was taken, and is refused
pub record IsRefused (why : SearchReason) (old : ServiceState) (result : Reply) (new : ServiceState) : Type 0 where
  pub entry : result ≡ reply.Entry (SearchRefused (old.searches + 1) why)
  pub left : new ≡ record old { searches = old.searches + 1 }

-- A search was taken: it is open, and asks for something; or it is refused.
pub data IsAsked (item : Item) (old : ServiceState) (result : Reply) (new : ServiceState) : Type 0 where
  asked_for : (request : Request) → Asks item request → result ≡ reply.Search (old.searches + 1) → new ≡ with_search item old
      → IsAsked item old result new
  refused : (why : SearchReason) → IsFaultOf item why → IsRefused why old result new → IsAsked item old result new

-- The open search at this place has this number.
pub record IsPlaceOf (awaited : List OpenSearch) (number place : ℕ) : Type 0 where
  pub search : OpenSearch
  pub is_open : slice_get awaited place ≡ Some search
  pub same : search.number ≡ number

-- The entry is that of the open search at this place.
abbrev pub IsOwnEntry : List OpenSearch → ℕ → Entry → Type 0
IsOwnEntry awaited place entry = (search : OpenSearch) → slice_get awaited place ≡ Some search → number_in entry ≡ search.number

-- The search at this place is refused for this reason.
pub record IsGivenUp (place : ℕ) (why : SearchReason) (old : ServiceState) (entry : Entry) (new : ServiceState) : Type 0 where
  pub search : OpenSearch
  pub is_open : slice_get old.awaited place ≡ Some search
  pub refused : entry ≡ SearchRefused search.number why
  pub still : StillHave old.turns new.turns
  pub left : new ≡ without place new.turns old

-- A cancel was taken: of an open search, of one that has its entry, or of one that was never asked.
pub data IsCancelled (line number : ℕ) (old : ServiceState) (result : Reply) (new : ServiceState) : Type 0 where
  given_up : (place : ℕ) (entry : Entry) → (found : IsGivenUp place search_reason.Cancelled old entry new) → found.search.number ≡ number
      → result ≡ reply.Cancelled entry → IsCancelled line number old result new
  too_late : WasAsked number old.searches → All (λ search. search.number ≢ number) old.awaited → result ≡ reply.Nothing → new ≡ old
      → IsCancelled line number old result new
  no_such_search : WasNotAsked number old.searches → result ≡ reply.Entry (Refused line NoSuchSearch) → new ≡ old → IsCancelled line number old result new

-- The loop of a run or a session, from event to event.
use Rattle.std.specs.Prelude.{◌≡◌, ◌≢◌, ℕ, ◌<◌, Bool, true, false, List, [], ◌++◌, Option, None}
use Rattle.script.specs.Items.{Numbered}
use Rattle.input.specs.declared.owned.OwnedItem.{OwnedItem}
use Rattle.input.specs.declared.owned.OwnedItem.TheVariants.{Sync}
use Rattle.input.specs.declared.read_item.ReadItem.{ReadItem}
use Rattle.input.specs.Read.{AreShown, Came, CameIn, HasItems, InboxState, IsReadOf}
use Rattle.service.specs.Service.{ServiceState}
use Rattle.event_loop.specs.declared.sink.News.{News}
use Rattle.event_loop.specs.Running.{Start, Now, IsRunning, IsStopped, Answers, AnswersFront}

-- What came of the input is taken, but for what is held.
pub record IsServing {W O : Type 0} (Does : W → O → News → W → O → Type 0) (Holds : List ℕ → List ℕ → Type 0) (readers : ℕ) (input : Option (List ℕ))
    (start : Start W O) (inbox : InboxState) (at : Now W O) : Type 0 where
  pub taken : List ReadItem
  pub running : (items : List Numbered) → AreShown taken items → IsRunning Does Holds readers start items at
  pub came : inbox.came ≡ taken ++ inbox.held
  pub read : IsReadOf input inbox.came

-- It stopped before it had taken all that came.
pub record IsCutOff {W O : Type 0} (Does Fails : W → O → News → W → O → Type 0) (Holds : List ℕ → List ℕ → Type 0) (readers : ℕ)
    (input : Option (List ℕ)) (start : Start W O) (failed : ℕ) (sink : W) (out : O) : Type 0 where
  pub taken : List ReadItem
  pub untaken : List ReadItem
  pub stopped : (items : List Numbered) → AreShown taken items → IsStopped Does Fails Holds readers start items failed sink out
  pub read : IsReadOf input (taken ++ untaken)

-- It goes on; or it is over: all is taken, and no search is open.
abbrev pub IsAdvanced : {W O : Type 0} → (W → O → News → W → O → Type 0) → (List ℕ → List ℕ → Type 0) → ℕ → Option (List ℕ) → Start W O → Bool → InboxState
    → Now W O → Type 0
IsAdvanced Does Holds readers input start true inbox at = IsServing Does Holds readers input start inbox at
IsAdvanced Does Holds readers input start false inbox at =
    IsServing Does Holds readers input start inbox at × (inbox.held ≡ []) × (at.service.awaited ≡ []) × (inbox.over ≢ None)

-- All items of the input were taken, and no search is open.
pub record IsDone {W O : Type 0} (Does : W → O → News → W → O → Type 0) (Holds : List ℕ → List ℕ → Type 0) (readers : ℕ) (input : Option (List ℕ))
    (start : Start W O) (at : Now W O) : Type 0 where
  pub items : List Numbered
  pub all : HasItems input items
  pub running : IsRunning Does Holds readers start items at
  pub settled : at.service.awaited ≡ []

-- An item can be taken: no search is open, or there are readers and it is no sync.
pub data MayTakeNow (readers : ℕ) (service : ServiceState) (item : OwnedItem) : Type 0 where
  settled : service.awaited ≡ [] → MayTakeNow readers service item
  beside : 0 < readers → item ≢ Sync → MayTakeNow readers service item

-- An item or the end of the reading came, or an open search may have got its entry.
pub data TakesEvent {W O : Type 0} (Does : W → O → News → W → O → Type 0) (input : Option (List ℕ)) (inbox : InboxState) (old : ServiceState) (sink : W)
    (out : O) (inbox' : InboxState) (new : ServiceState) (sink' : W) (out' : O) : Type 0 where
  came : (this : Came) → CameIn this inbox inbox' → IsReadOf input inbox'.came → new ≡ old → sink' ≡ sink → out' ≡ out
      → TakesEvent Does input inbox old sink out inbox' new sink' out'
  answered : inbox' ≡ inbox → Answers Does old sink out new sink' out' → TakesEvent Does input inbox old sink out inbox' new sink' out'

-- The sink was told of nothing, or in part of the entry of an open search.
pub data FailsAtEvent {W O : Type 0} (Fails : W → O → News → W → O → Type 0) (old : ServiceState) (sink : W) (out : O) (new : ServiceState) (sink' : W)
    (out' : O) : Type 0 where
  at_once : sink' ≡ sink → out' ≡ out → FailsAtEvent Fails old sink out new sink' out'
  in_part : {last : ServiceState} → AnswersFront Fails old sink out last sink' out' → FailsAtEvent Fails old sink out new sink' out'

-- Items that are carried out.
use Rattle.std.specs.Prelude.{◌≡◌, ℕ, List, [], ◌++◌, length, true, false, Option, Some}
use Rattle.script.specs.Items.{Numbered, cancel, status}
use Rattle.published.specs.Desk.{DeskState}
use Rattle.published.specs.History.{Known, known}
use Rattle.service.specs.declared.items.Outcome.{Outcome}
use Rattle.service.specs.declared.items.Outcome.TheVariants as outcome
use Rattle.transcript.specs.declared.entry.Entry.{Entry}
use Rattle.transcript.specs.declared.entry.Entry.TheVariants.{Published}
use Rattle.steps.specs.Rows.{accepted_by, command_of, version_in, failures_in, searches_of, is_sync}
use Rattle.steps.specs.StepRows.{searches_in}
use Rattle.steps.specs.LegalRows.{IsCommandEntry}
use Rattle.documents.specs.State.{state_of}
use Rattle.documents.specs.declared.lengths.Lengths.{Lengths}
use Rattle.service.specs.Service.{IsCounted}

-- What a reading can learn after the entry: after a publish, everything accepted; otherwise, the same as before.
pub data Tells (desk : DeskState) (told : Known) (entry : Entry) (told' : Known) : Type 0 where
  all : (line : ℕ) → entry ≡ Published line (length desk.accepted) → told' ≡ known desk.opening desk.accepted → Tells desk told entry told'
  nothing : version_in (Some entry) ≡ [] → told' ≡ told → Tells desk told entry told'

-- The item is neither a search nor a sync. It can have this entry, and the desk changes as the entry says.
pub record IsEntered (Holds : List ℕ → List ℕ → Type 0) (lengths : Lengths) (desk : DeskState) (told : Known) (failed : ℕ) (item : Numbered) (entry : Entry)
    (desk' : DeskState) (told' : Known) (failed' : ℕ) : Type 0 where
  pub loaded : Option (List ℕ)
  pub legal : IsCommandEntry Holds lengths desk.limit (state_of desk.accepted) loaded item.line item.item entry
  pub no_search : searches_of item.item ≡ 0
  pub no_sync : is_sync item.item ≡ false
  pub no_search_entry : searches_in entry ≡ 0
  pub opening : desk'.opening ≡ desk.opening
  pub limit : desk'.limit ≡ desk.limit
  pub accepted : desk'.accepted ≡ desk.accepted ++ accepted_by (Some entry) (command_of item.item loaded)
  pub tells : Tells desk told entry told'
  pub published : desk.published ≡ told.commands → desk'.published ≡ told'.commands
  pub counted : IsCounted (failures_in (Some entry)) failed failed'

-- Searches, syncs, cancels and statuses leave the desk as it was.
abbrev pub IsLeft : DeskState → Known → ℕ → DeskState → Known → ℕ → Type 0
IsLeft desk told failed desk' told' failed' = (desk' ≡ desk) × (told' ≡ told) × (failed' ≡ failed)

abbrev pub IsCarriedOut : (List ℕ → List ℕ → Type 0) → Lengths → DeskState → Known → ℕ → Numbered → Outcome → DeskState → Known → ℕ → Type 0
IsCarriedOut Holds lengths desk told failed item (outcome.Entry entry) desk' told' failed' = IsEntered Holds lengths desk told failed item entry desk' told' failed'
IsCarriedOut Holds lengths desk told failed item (outcome.Search question) desk' told' failed' =
    (question ≡ item.item) × (searches_of item.item ≡ 1) × IsLeft desk told failed desk' told' failed'
IsCarriedOut Holds lengths desk told failed item outcome.Sync desk' told' failed' = (is_sync item.item ≡ true) × IsLeft desk told failed desk' told' failed'
IsCarriedOut Holds lengths desk told failed item (outcome.Cancel number) desk' told' failed' = (item.item ≡ cancel number) × IsLeft desk told failed desk' told' failed'
IsCarriedOut Holds lengths desk told failed item outcome.Status desk' told' failed' = (item.item ≡ status) × IsLeft desk told failed desk' told' failed'

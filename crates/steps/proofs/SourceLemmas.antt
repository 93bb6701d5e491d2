-- What is legal for one source is legal for a source that holds as much.
use Rattle.std.proofs.Common.{ℕ, List, Option}
use Rattle.documents.specs.State.{State}
use Rattle.documents.specs.declared.lengths.Lengths.{Lengths}
use Rattle.script.specs.Items.{Item, Numbered, load}
use Rattle.transcript.specs.declared.entry.Entry.{Entry}
use Rattle.steps.specs.LegalRows.{Limits, IsNamed, HasLoaded, IsCommandEntry}
use Rattle.steps.specs.LegalRows as legal
use Rattle.steps.specs.Steps.{RunState, IsStep, Runs, begins, goes_on}
use Rattle.steps.specs.Steps as steps

module _ (H H' : List ℕ → List ℕ → Type 0) (more : (path body : List ℕ) → H path body → H' path body) (lengths : Lengths) (most : ℕ) where
  loaded_mapped : (state : State) (path : List ℕ) (loaded : Option (List ℕ)) (line : ℕ) (entry : Entry)
      → HasLoaded H lengths most state path loaded line entry → HasLoaded H' lengths most state path loaded line entry
  loaded_mapped state path loaded line entry (legal.failed none is) = legal.failed none is
  loaded_mapped state path loaded line entry (legal.loaded_body body some held with) = legal.loaded_body body some (more path body held) with

  load_mapped : (state : State) (name path : List ℕ) (loaded : Option (List ℕ)) (line : ℕ) (entry : Entry)
      → IsNamed lengths.name name line entry (HasLoaded H lengths most state path loaded line entry) → IsNamed lengths.name name line entry (HasLoaded H' lengths most state path loaded line entry)
  load_mapped state name path loaded line entry (legal.bad_name fault other is_fault is) = legal.bad_name fault other is_fault is
  load_mapped state name path loaded line entry (legal.no_memory is_name is) = legal.no_memory is_name is
  load_mapped state name path loaded line entry (legal.named is_name else) = legal.named is_name (loaded_mapped state path loaded line entry else)

  entry_mapped : (state : State) (loaded : Option (List ℕ)) (line : ℕ) (item : Item) (entry : Entry)
      → IsCommandEntry H lengths most state loaded line item entry → IsCommandEntry H' lengths most state loaded line item entry
  entry_mapped state loaded line (load name path) entry h = load_mapped state name path loaded line entry h
  entry_mapped state loaded line item entry h = h

module _ (H H' : List ℕ → List ℕ → Type 0) (more : (path body : List ℕ) → H path body → H' path body) (limits : Limits) where
  pub step_mapped : (readers : ℕ) (s : RunState) (taken : List Numbered) (written : List Entry) (s' : RunState)
      → IsStep H limits readers s taken written s' → IsStep H' limits readers s taken written s'
  step_mapped readers s taken written s' (steps.carried_out item loaded entry may h takes writes same) =
      steps.carried_out item loaded entry may (entry_mapped H H' more limits.lengths limits.commands _ loaded item.line item.item entry h) takes writes same
  step_mapped readers s taken written s' (steps.asked_for item request may asks takes writes same) =
      steps.asked_for item request may asks takes writes same
  step_mapped readers s taken written s' (steps.refused item why may fault takes writes same) = steps.refused item why may fault takes writes same
  step_mapped readers s taken written s' (steps.answered place search reader turn answer is_open now takes writes same) =
      steps.answered place search reader turn answer is_open now takes writes same
  step_mapped readers s taken written s' (steps.not_answered place search is_open takes writes same) =
      steps.not_answered place search is_open takes writes same
  step_mapped readers s taken written s' (steps.too_slow place search timed is_open takes writes same) =
      steps.too_slow place search timed is_open takes writes same
  step_mapped readers s taken written s' (steps.cancelled item place search may is is_open takes writes same) =
      steps.cancelled item place search may is is_open takes writes same
  step_mapped readers s taken written s' (steps.too_late item number may is asked not_open takes writes same) =
      steps.too_late item number may is asked not_open takes writes same
  step_mapped readers s taken written s' (steps.no_such_search item number may is not_asked takes writes same) =
      steps.no_such_search item number may is not_asked takes writes same
  step_mapped readers s taken written s' (steps.reported item may is takes writes same) = steps.reported item may is takes writes same
  step_mapped readers s taken written s' (steps.sync item is empty takes writes same) = steps.sync item is empty takes writes same

  pub runs_mapped : (readers : ℕ) (from : RunState) {items : List Numbered} {entries : List Entry} {s : RunState}
      → Runs H limits readers from items entries s → Runs H' limits readers from items entries s
  runs_mapped readers from begins = begins
  runs_mapped readers from (goes_on {taken = t} {written = w} {s = s} {s' = s'} run step is are) =
      goes_on (runs_mapped readers from run) (step_mapped readers s t w s' step) is are

-- Rows that are legal for one source are legal for a source that holds as much.
use Rattle.std.proofs.Common.{ℕ, List, Option, Some}
use Rattle.script.specs.Items.{Item, load}
use Rattle.transcript.specs.declared.entry.Entry.{Entry}
use Rattle.steps.specs.Rows.{Row}
use Rattle.steps.specs.LegalRows.{Limits, Context, IsNamed, HasLoaded, IsEntryOf, HasEntry, state_before}
use Rattle.steps.specs.LegalRows as legal
use Rattle.steps.specs.Steps.{RunState}
use Rattle.steps.specs.StepRows.{AreRows, Stands}
use Rattle.steps.specs.StepRows as rows_of

module _ (H H' : List ℕ → List ℕ → Type 0) (more : (path body : List ℕ) → H path body → H' path body) (limits : Limits) where
  module _ (context : Context) (line : ℕ) (entry : Entry) where
    loaded_mapped : (path : List ℕ) → HasLoaded H limits.lengths limits.commands (state_before context) path context.row.loaded line entry
        → HasLoaded H' limits.lengths limits.commands (state_before context) path context.row.loaded line entry
    loaded_mapped path (legal.failed none is) = legal.failed none is
    loaded_mapped path (legal.loaded_body body some held with) = legal.loaded_body body some (more path body held) with

    load_mapped : (name path : List ℕ) → IsNamed limits.lengths.name name line entry (HasLoaded H limits.lengths limits.commands (state_before context) path context.row.loaded line entry)
        → IsNamed limits.lengths.name name line entry (HasLoaded H' limits.lengths limits.commands (state_before context) path context.row.loaded line entry)
    load_mapped name path (legal.bad_name fault other is_fault is) = legal.bad_name fault other is_fault is
    load_mapped name path (legal.no_memory is_name is) = legal.no_memory is_name is
    load_mapped name path (legal.named is_name else) = legal.named is_name (loaded_mapped path else)

  entry_mapped : (context : Context) (item : Item) (entry : Option Entry) → HasEntry H limits context item entry → HasEntry H' limits context item entry
  unfolding IsEntryOf
  entry_mapped context (load name path) (Some entry) h = load_mapped context context.row.numbered.line entry name path h
  entry_mapped context item entry h = h

  stands_mapped : (readers : ℕ) (front : List Row) (row : Row) (back : List Row) → Stands H limits readers front row back
      → Stands H' limits readers front row back
  stands_mapped readers front row back (rows_of.legal is) =
      rows_of.legal (λ before after others e e' rises.
      entry_mapped (record { readers = readers; before = before; row = row; after = after }) row.numbered.item row.entry
      (is before after others e e' rises))
  stands_mapped readers front row back (rows_of.waits request asks none no_sync alone) = rows_of.waits request asks none no_sync alone

  pub rows_mapped : (readers : ℕ) (s : RunState) (rows : List Row) → AreRows H limits readers s rows → AreRows H' limits readers s rows
  rows_mapped readers s rows are = record {
    accepted = are.accepted;
    published = are.published;
    rises = are.rises;
    within = are.within;
    searches = are.searches;
    awaited = are.awaited;
    stand = λ before row after e. stands_mapped readers _ row _ (are.stand before row after e);
    turns = are.turns;
    noted = are.noted;
  }

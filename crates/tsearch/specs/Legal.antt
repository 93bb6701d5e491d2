-- Which transcripts are legal for a script: what a run may answer, whatever its readers and their timing.
use Rattle.std.specs.Prelude.{◌≡◌, ℕ, List, [], ◌∷◌, ◌++◌, is_some, IsPermutation}
use Rattle.script.specs.Items.{IsItemsOf}
use Rattle.transcript.specs.declared.entry.Entry.{Entry}
use Rattle.steps.specs.LegalRows.{Limits, IsLegalRow, AreInTurn, IsFailedTimes}
use Rattle.steps.specs.Rows.{Row, items_of, entries_of, count_failures}
use Rattle.steps.specs.Steps.{RunState, IsFirst, Runs}
use Rattle.tsearch.specs.declared.run.Options.{Options}

-- what bounds a run with these options
abbrev pub limits_in : Options → Limits
limits_in options = record { commands = options.max_commands; lengths = options.lengths; timed = is_some options.search_ms }

-- The transcript is legal. Its rows are, and legal steps take its items: they lead from the first state to one in which no
-- search is open, and write its entries, in the order in which searches got theirs. Holds: what the source held. failed,
-- failed': how often the source had failed before the run and after it.
pub record IsLegal (script : List ℕ) (options : Options) (Holds : List ℕ → List ℕ → Type 0) (failed failed' : ℕ) (entries : List Entry) : Type 0 where
  pub rows : List Row
  pub items : IsItemsOf script (items_of rows)
  pub whole : entries ≡ entries_of rows
  pub each : (before : List Row) (row : Row) (after : List Row) → rows ≡ before ++ row ∷ after
      → IsLegalRow Holds (limits_in options) (record { readers = options.readers; before = before; row = row; after = after })
  pub turns : AreInTurn rows
  pub failures : IsFailedTimes (count_failures rows) failed failed'
  pub begin : RunState
  pub end : RunState
  pub written : List Entry
  pub first : IsFirst begin
  pub runs : Runs Holds (limits_in options) options.readers begin (items_of rows) written end
  pub settled : end.awaited ≡ []
  pub same : IsPermutation entries written

-- What a session promises.
use Rattle.std.specs.Prelude.{◌≡◌, ℕ, List, ◌++◌, Option, [], is_some}
use Rattle.std.specs.Io.KnownBytes.{Appends}
use Rattle.script.specs.Items.{Numbered}
use Rattle.input.specs.Read.{HasItems}
use Rattle.steps.specs.Entries.{failures_of}
use Rattle.steps.specs.LegalRows.{Limits, IsFailedTimes}
use Rattle.steps.specs.Steps.{RunState, IsFirst, Runs}
use Rattle.transcript.specs.declared.entry.Entry.{Entry}
use Rattle.transcript.specs.Transcript.{status_of, text_of_transcript}
use Rattle.transcript.specs.Written.{AppendsFront}
use Rattle.tsearch.specs.declared.serving.LiveOptions.{LiveOptions}

-- what bounds a session with these options
abbrev pub limits_in : LiveOptions → Limits
limits_in options = record { commands = options.max_commands; lengths = options.lengths; timed = is_some options.search_ms }

-- Legal steps from the first state take these items and write these entries. Holds: what the source held. failed, failed':
-- how often the source had failed, before and after.
pub record AreSteps (options : LiveOptions) (Holds : List ℕ → List ℕ → Type 0) (failed failed' : ℕ) (items : List Numbered) (entries : List Entry)
    (end : RunState) : Type 0 where
  pub begin : RunState
  pub first : IsFirst begin
  pub runs : Runs Holds (limits_in options) options.readers begin items entries end
  pub failures : IsFailedTimes (failures_of entries) failed failed'

-- A session whose reading ended: legal steps take exactly the items of the input, in their order, until no search is open.
-- The text that was written is that of their entries, and the status is that of the entries. input: the bytes of the
-- input. old, new: what has been written, before and after.
pub record IsServed (options : LiveOptions) (Holds : List ℕ → List ℕ → Type 0) (failed failed' : ℕ) (input old new : Option (List ℕ))
    (status : ℕ) : Type 0 where
  pub items : List Numbered
  pub entries : List Entry
  pub end : RunState
  pub are_items : HasItems input items
  pub steps : AreSteps options Holds failed failed' items entries end
  pub settled : end.awaited ≡ []
  pub written : Appends old new (text_of_transcript options.stats entries)
  pub is_status : status ≡ status_of entries

-- A session that ended early: what was written is a beginning of the text of legal steps that take the first items of the
-- input. The others are not taken.
pub record IsBroken (options : LiveOptions) (Holds : List ℕ → List ℕ → Type 0) (failed failed' : ℕ) (input old new : Option (List ℕ)) : Type 0 where
  pub items : List Numbered
  pub others : List Numbered
  pub entries : List Entry
  pub end : RunState
  pub are_items : HasItems input (items ++ others)
  pub steps : AreSteps options Holds failed failed' items entries end
  pub written : AppendsFront old new (text_of_transcript options.stats entries)

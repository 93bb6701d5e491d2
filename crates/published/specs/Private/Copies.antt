-- Both copies of a shelf, and the operations that one of them lacks.
use Rattle.std.specs.Prelude.{◌≡◌, List, [], ◌++◌, length, drop, fold}
use Rattle.documents.specs.declared.command.Command.{Command}
use Rattle.published.specs.History.{Known}
use Rattle.published.specs.Private.Shelf.{operated, commands_in}
use Rattle.published.specs.declared.shelf.Shelf.{Shelf}
use Rattle.published.specs.declared.shelf.Operation.{Operation}
use Rattle.published.specs.declared.log.Log.{Log}

-- the operations that the spare copy lacks
abbrev pub lacking : Log → List Operation
lacking log = log.behind.items ++ drop log.ahead log.pending.items

-- Each copy with all that it lacks is the same. So a part of the first operation that the spare one lacks may be done, if the
-- operation then leaves what it would have left.
abbrev pub InStep : Shelf → Shelf → Log → Type 0
InStep shown spare log = fold operated spare (lacking log) ≡ fold operated shown log.pending.items

-- The spare copy has each operation.
abbrev pub IsAllDone : Log → Type 0
IsAllDone log = (log.behind.items ≡ []) × (log.ahead ≡ length log.pending.items)

-- the front that is shown, and all accepted commands
pub record CopiesState : Type 0 where
  pub shown : Known
  pub accepted : List Command

abbrev pub copies_state : Known → List Command → CopiesState
copies_state shown accepted = record { shown = shown; accepted = accepted }

-- the commands that are on the shelf, and then those still pending
abbrev pub accepted_of : Shelf → List Operation → List Command
accepted_of shown pending = shown.front.commands ++ commands_in pending

abbrev pub copies_of : Shelf → List Operation → CopiesState
copies_of shown pending = copies_state shown.front (accepted_of shown pending)

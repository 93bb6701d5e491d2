-- What was accepted since the last publish.
use Rattle.std.specs.Prelude.{◌≡◌, ℕ, List, [], ◌∷◌, ◌++◌, length, drop}
use Rattle.documents.specs.declared.command.Command.{Command}
use Rattle.documents.specs.State.{State, applied}
use Rattle.versions.specs.Updates.{commands_of, after}
use Rattle.desk.specs.declared.pending.Pending.{Pending}

abbrev pub commands_in : Pending → List Command
commands_in pending = commands_of pending.updates.items

-- the state that the draft is in after the updates that it lacks
abbrev pub state_after : Pending → State
state_after pending = after (commands_of (drop pending.done pending.updates.items)) pending.draft

-- The draft lacks no update.
abbrev pub IsSettled : Pending → Type 0
IsSettled pending = pending.done ≡ length pending.updates.items

-- The commands and the state after them stay. The draft can lack fewer updates.
abbrev pub Stays : Pending → Pending → Type 0
Stays old new = (commands_in new ≡ commands_in old) × (state_after new ≡ state_after old)

-- One more command is added.
abbrev pub Adds : Command → Pending → Pending → Type 0
Adds command old new = (commands_in new ≡ commands_in old ++ command ∷ []) × (state_after new ≡ applied command (state_after old))

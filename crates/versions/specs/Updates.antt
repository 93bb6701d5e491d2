-- Commands that are applied one after the other.
use Rattle.std.specs.Prelude.{List, map}
use Rattle.std.specs.List.{fold}
use Rattle.documents.specs.declared.command.Command.{Command}
use Rattle.documents.specs.declared.command.Command.TheVariants.{Put, Remove, RemoveUnder, CopyUnder}
use Rattle.documents.specs.State.{State, applied}
use Rattle.versions.specs.declared.update.Update.{Update}
use Rattle.versions.specs.declared.update.Update.TheVariants as update

-- the command of an update
abbrev pub command_of : Update → Command
command_of (update.Put name held like) = Put name held
command_of (update.Remove name) = Remove name
command_of (update.RemoveUnder prefix) = RemoveUnder prefix
command_of (update.CopyUnder from to) = CopyUnder from to

-- those of several, in their order
abbrev pub commands_of : List Update → List Command
commands_of updates = map command_of updates

-- the state after each of these commands in turn
abbrev pub after : List Command → State → State
after commands s = fold (λ state command. applied command state) s commands

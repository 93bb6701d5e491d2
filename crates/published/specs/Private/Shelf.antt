-- What operations do to a shelf.
use Rattle.std.specs.Prelude.{List, [], ◌∷◌}
use Rattle.documents.specs.declared.command.Command.{Command}
use Rattle.documents.specs.declared.command.Command.TheVariants.{Put, Remove, RemoveUnder, CopyUnder}
use Rattle.documents.specs.State.{applied}
use Rattle.published.specs.declared.shelf.Update.{Update}
use Rattle.published.specs.declared.shelf.Update.TheVariants as update
use Rattle.published.specs.declared.shelf.Operation.{Operation}
use Rattle.published.specs.declared.shelf.Operation.TheVariants.{Change, Stamp}
use Rattle.published.specs.declared.shelf.Shelf.{Shelf}

abbrev pub command_of : Update → Command
command_of (update.Put name held) = Put name held
command_of (update.Remove name) = Remove name
command_of (update.RemoveUnder prefix) = RemoveUnder prefix
command_of (update.CopyUnder from to) = CopyUnder from to

-- the shelf after an operation
abbrev pub operated : Shelf → Operation → Shelf
operated shelf (Change update) = record shelf { index = applied (command_of update) shelf.index }
operated shelf (Stamp front) = record shelf { front = front }

-- the commands among some operations
abbrev pub commands_in : List Operation → List Command
commands_in [] = []
commands_in (Change update ∷ later) = command_of update ∷ commands_in later
commands_in (Stamp front ∷ later) = commands_in later

-- The history of an opening is kept in batches, one for each publish that adds commands.
use Rattle.std.specs.Prelude.{List}
use Rattle.std.specs.List.{flat_map}
use Rattle.documents.specs.declared.command.Command.{Command}

-- the commands of some batches, one after the other
abbrev pub joined : List (List Command) → List Command
joined batches = flat_map (λ batch. batch) batches

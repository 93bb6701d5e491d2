-- How the parts of a desk make up its state.
use Rattle.std.specs.Prelude.{◌≡◌, ℕ, List, length, take, drop}
use Rattle.documents.specs.declared.command.Command.{Command}
use Rattle.published.specs.History.{Known}
use Rattle.published.specs.Private.Names.{has_name}
use Rattle.published.specs.Private.Copies.{CopiesState}
use Rattle.published.specs.Desk.{has_document}
use Rattle.published.specs.declared.names.Names.{Names}

-- The commands that the history lacks.
abbrev pub lacking : Known → CopiesState → List Command
lacking front copies = drop (length front.commands) copies.accepted

-- The accepted commands begin with these.
abbrev pub Begins : List Command → List Command → Type 0
Begins commands accepted = take (length commands) accepted ≡ commands

-- The names are those of the documents after these commands.
abbrev pub HasNamesOf : Names → List Command → Type 0
HasNamesOf names commands = (name : List ℕ) → has_name names name ≡ has_document commands name

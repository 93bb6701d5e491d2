-- What is known of an opening.
use Rattle.std.specs.Prelude.{List}
use Rattle.logbook.specs.Pages.{Book}
use Rattle.documents.specs.declared.command.Command.{Command}

-- The first commands of an opening's history, as many as are known. The opening is named by the book that has the
-- history.
pub record Known : Type 0 where
  pub opening : Book
  pub commands : List Command

-- what is known, by its parts
abbrev pub known : Book → List Command → Known
known opening commands = record { opening = opening; commands = commands }

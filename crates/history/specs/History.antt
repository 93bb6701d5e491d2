-- What is known of a history.
use Rattle.std.specs.Prelude.{true, List}
use Rattle.logbook.specs.Pages.{Book, Named}

-- The first entries of a history, as many as are known. The history is named by its book.
pub record History (E : Type 0) : Type 0 where
  pub book : Book
  pub entries : List E

-- a history, by its parts
abbrev pub history : {E : Type 0} → Book → List E → History E
history book entries = record { book = book; entries = entries }

-- the head of the history that is named by this book
abbrev pub head_of : Book → Named
head_of book = record { tracked = true; key = 0; book = book }

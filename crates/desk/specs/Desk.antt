-- What a desk has accepted and published.
use Rattle.std.specs.Prelude.{◌≡◌, ℕ, ◌<◌, Bool, true, false, List, [], ◌∷◌, ◌++◌, length}
use Rattle.logbook.specs.Pages.{Book}
use Rattle.documents.specs.declared.command.Command.{Command}
use Rattle.documents.specs.Documents.{documents_of, is_taken, has_under, has_long_copy}
use Rattle.desk.specs.declared.error.PutErrorKind.{PutErrorKind}
use Rattle.desk.specs.declared.error.PutErrorKind.TheVariants as put_error
use Rattle.desk.specs.declared.error.RemoveError.{RemoveError}
use Rattle.desk.specs.declared.error.RemoveError.TheVariants as remove_error
use Rattle.desk.specs.declared.error.CopyError.{CopyError}
use Rattle.desk.specs.declared.error.CopyError.TheVariants as copy_error

-- the opening, the greatest number of commands, and the lists of the published and the accepted commands
pub record DeskState : Type 0 where
  pub opening : Book
  pub limit : ℕ
  pub published : List Command
  pub accepted : List Command

-- a desk's state, by its parts
abbrev pub desk_state : Book → ℕ → List Command → List Command → DeskState
desk_state opening limit published accepted = record { opening = opening; limit = limit; published = published; accepted = accepted }

-- one more command is accepted
abbrev pub with_command : Command → DeskState → DeskState
with_command command desk = record desk { accepted = desk.accepted ++ command ∷ [] }

-- all that is accepted is published
abbrev pub all_published : DeskState → DeskState
all_published desk = record desk { published = desk.accepted }

-- the greatest number of commands has been accepted
abbrev pub IsFull : DeskState → Type 0
IsFull desk = length desk.accepted ≡ desk.limit

-- there is room for one more command
abbrev pub HasRoom : DeskState → Type 0
HasRoom desk = length desk.accepted < desk.limit

-- whether there is a document of this name after these commands
abbrev pub has_document : List Command → List ℕ → Bool
has_document commands name = is_taken name (documents_of commands)

-- whether there is a document after these commands whose name begins with the text
abbrev pub has_document_under : List Command → List ℕ → Bool
has_document_under commands text = has_under text (documents_of commands)

-- the first cause for which a put is refused
abbrev pub IsPutFault : PutErrorKind → DeskState → Type 0
IsPutFault put_error.Full desk = IsFull desk
IsPutFault put_error.OutOfMemory desk = HasRoom desk

-- the first cause for which a remove is refused; found: whether there is a document to be removed
abbrev pub IsRemoveFault : RemoveError → Bool → DeskState → Type 0
IsRemoveFault remove_error.NoSuchFile found desk = found ≡ false
IsRemoveFault remove_error.Full found desk = (found ≡ true) × IsFull desk
IsRemoveFault remove_error.OutOfMemory found desk = (found ≡ true) × HasRoom desk

-- whether a copy of these documents would have a name of more bytes than this
abbrev pub has_document_too_long : List Command → ℕ → List ℕ → List ℕ → Bool
has_document_too_long commands most from to = has_long_copy most from to (documents_of commands)

-- the first cause for which a copy is refused; found: whether there is a document to be copied; long: whether a name would be too long
abbrev pub IsCopyFault : CopyError → Bool → Bool → DeskState → Type 0
IsCopyFault copy_error.NoSuchFile found long desk = found ≡ false
IsCopyFault copy_error.TooLong found long desk = (found ≡ true) × (long ≡ true)
IsCopyFault copy_error.Full found long desk = (found ≡ true) × (long ≡ false) × IsFull desk
IsCopyFault copy_error.OutOfMemory found long desk = (found ≡ true) × (long ≡ false) × HasRoom desk

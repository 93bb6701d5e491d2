-- The texts of refusals (this program's choice).
use Rattle.std.specs.Prelude.{ℕ, List, codes}
use Rattle.documents.specs.declared.error.NameError.{NameError}
use Rattle.documents.specs.declared.error.NameError.TheVariants as name
use Rattle.documents.specs.declared.error.BodyErrorKind.{BodyErrorKind}
use Rattle.documents.specs.declared.error.BodyErrorKind.TheVariants as body
use Rattle.transcript.specs.declared.entry.Reason.{Reason}
use Rattle.transcript.specs.declared.entry.Reason.TheVariants as line

-- what is wrong with a name
abbrev pub text_of_name_error : NameError → List ℕ
text_of_name_error name.Empty = codes "name empty"
text_of_name_error name.TooLong = codes "name too long"
text_of_name_error name.BadByte = codes "bad byte in name"
text_of_name_error name.OutOfMemory = codes "out of memory"

-- what is wrong with a body
abbrev pub text_of_body_error : BodyErrorKind → List ℕ
text_of_body_error body.TooLong = codes "body too long"
text_of_body_error body.NotText = codes "byte 0 in body"
text_of_body_error body.LineTooLong = codes "line too long"

-- why a line of a script is refused
abbrev pub text_of_reason : Reason → List ℕ
text_of_reason line.BadLine = codes "bad line"
text_of_reason line.BadPut = codes "bad put"
text_of_reason line.Truncated = codes "truncated"
text_of_reason line.BodyNotClosed = codes "body not closed"
text_of_reason (line.Name error) = text_of_name_error error
text_of_reason (line.Body kind) = text_of_body_error kind
text_of_reason line.CannotLoad = codes "cannot load"
text_of_reason line.NoSuchFile = codes "no such file"
text_of_reason line.NoSuchSearch = codes "no such search"
text_of_reason line.Full = codes "full"
text_of_reason line.OutOfMemory = codes "out of memory"

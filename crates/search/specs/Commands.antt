-- What a pattern asks for in the documents that commands leave.
use Rattle.std.specs.Prelude.{◌≡◌, ℕ, ◌-◌, ◌<◌, List, Some, slice_get}
use Rattle.lines.specs.Lines.{lines_of}
use Rattle.documents.specs.declared.command.Command.{Command}
use Rattle.documents.specs.Documents.{IsPutLast}
use Rattle.prepare.specs.Pattern.{Admits, Passes, Pattern}
use Rattle.views.specs.Found.{Hit}

-- The pattern asks for this line of the last Put of its name, or of a copy, on which no later command bears.
pub record IsHitOfPut (commands : List Command) (pattern : Pattern) (found : Hit) : Type 0 where
  pub body : List ℕ
  pub put : IsPutLast commands found.name body
  pub counted : 0 < found.line
  pub line : slice_get (lines_of body) (found.line - 1) ≡ Some found.text
  pub hit : Passes pattern.line found.text
  pub admitted : Admits pattern found.name

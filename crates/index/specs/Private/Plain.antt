-- The state of an index without the numbers by which it finds its documents.
use Rattle.std.specs.Prelude.{ℕ, List, map}
use Rattle.std.specs.FinMap.{from_entries}
use Rattle.documents.specs.Documents.{Documents}
use Rattle.documents.specs.State.{State, state}
use Rattle.index.specs.Private.Numbered.{Document as NumberedDocument, State as NumberedState}

-- the document without its number
abbrev pub entry : NumberedDocument → List ℕ × List ℕ
entry d = (d.name, d.body)

abbrev pub plain_documents : List NumberedDocument → Documents
plain_documents documents = from_entries (map entry documents)

abbrev pub plain_state : NumberedState → State
plain_state s = state s.version (plain_documents s.documents)

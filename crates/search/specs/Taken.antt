-- What a search has taken out of an index.
use Rattle.std.specs.Prelude.{◌≡◌, ◌++◌, List, length}
use Rattle.std.specs.FinMap.{len}
use Rattle.documents.specs.Shared.{documents_shared, NumbersTellBodies}
use Rattle.documents.specs.State.{State, IsState}
use Rattle.documents.specs.declared.document.SharedDocument.{SharedDocument}
use Rattle.search.specs.declared.first.First.{First}
use Rattle.search.specs.declared.first.First.TheVariants.{All as all_taken, Part as part_taken}
use Rattle.search.specs.declared.first.FirstPart.{FirstPart}
use Rattle.search.specs.declared.taken.Taken.{Taken}
use Rattle.search.specs.Front.{AreFronted}
use Rattle.prepare.specs.Prepared.{request_of}
use Rattle.prepare.specs.Request.{Request}
use Rattle.views.specs.Scan.{candidates_of}

-- It was taken from an index in this state, for this request: the number of all candidates, and some or all of these documents, which
-- are the candidates whose names begin with texts with one of which every name begins that is asked for. Those with the same number
-- have the same body.
pub record IsTakenAmong (all : List SharedDocument) (state : State) (request : Request) (taken : Taken) : Type 0 where
  pub prepared : request_of taken.prepared.now ≡ request
  pub version : taken.version ≡ state.version
  pub documents : taken.documents ≡ len state.documents
  pub count : taken.count ≡ length (candidates_of state request.pattern.line)
  pub is_state : IsState state
  pub candidates : AreFronted state request.pattern (documents_shared all)
  pub same : NumbersTellBodies taken.candidates.items

-- All of them were taken.
abbrev pub IsTakenOf : State → Request → Taken → Type 0
IsTakenOf state request taken = IsTakenAmong taken.candidates.items state request taken

-- The first of them were taken, in the order of their names.
pub record IsPartOf (state : State) (request : Request) (part : FirstPart) : Type 0 where
  pub others : List SharedDocument
  pub taken : IsTakenAmong (part.taken.candidates.items ++ others) state request part.taken

-- All of them were taken, or the first of them.
abbrev pub IsFirstOf : State → Request → First → Type 0
IsFirstOf state request (all_taken taken) = IsTakenOf state request taken
IsFirstOf state request (part_taken part) = IsPartOf state request part

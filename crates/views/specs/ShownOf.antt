-- When what a client gets is what a request shows of the answer in a state.
use Rattle.std.specs.Prelude.{◌≡◌, List, length}
use Rattle.documents.specs.Documents.{listed}
use Rattle.documents.specs.State.{State}
use Rattle.prepare.specs.Request.{Request}
use Rattle.views.specs.Rows.{AreRows, at_most, is_over, total}
use Rattle.views.specs.Scan.{IsAnswerOf}
use Rattle.views.specs.Found.{Answer}
use Rattle.views.specs.Shown.{Shown}
use Rattle.views.specs.Text.{text_of_rows}
use Rattle.views.specs.View.{Row}

-- It shows what the request asks for of the answer in this state.
pub record IsShownOf (state : State) (request : Request) (shown : Shown) : Type 0 where
  pub answer : Answer
  pub is_answer : IsAnswerOf state request.pattern answer
  pub rows : List Row
  pub are_rows : AreRows request request.view (listed state.documents) answer.hits rows
  pub view : shown.view ≡ request.view
  pub version : shown.version ≡ answer.version
  pub count : shown.count ≡ at_most request.limit (total request.view answer.hits)
  pub more : shown.more ≡ is_over request.limit (total request.view answer.hits)
  pub row_count : shown.rows ≡ length rows
  pub text : shown.text ≡ text_of_rows request.zero rows
  pub documents : shown.documents ≡ answer.documents
  pub candidates : shown.candidates ≡ answer.candidates

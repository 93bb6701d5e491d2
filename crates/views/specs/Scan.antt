-- The lines that a search finds, and when an answer is one of a state.
use Rattle.std.specs.Prelude.{◌≡◌, ◌-◌, ◌<◌, List, length, Some, slice_get, filter, Contains, ◌↔◌}
use Rattle.std.specs.Ordering.{nat_cmp, then_cmp, on}
use Rattle.std.specs.Cmp.Lexicographic.{slice_cmp}
use Rattle.std.specs.FinMap.{len}
use Rattle.std.specs.List.Sorted.{IsStrictlySortedBy}
use Rattle.std.specs.declared.cmp.Ordering.{Ordering}
use Rattle.lines.specs.Lines.{lines_of}
use Rattle.query.specs.Trigrams.{trigrams_of_body}
use Rattle.documents.specs.Documents.{Document, listed}
use Rattle.documents.specs.State.{State}
use Rattle.prepare.specs.Pattern.{Admits, Test, Passes, Pattern}
use Rattle.prepare.specs.Queries.{can_have}
use Rattle.views.specs.Found.{Answer, Hit}

-- The pattern asks for this line of some document.
pub record IsHit (state : State) (pattern : Pattern) (found : Hit) : Type 0 where
  pub document : Document
  pub there : Contains (listed state.documents) document
  pub named : found.name ≡ document.name
  pub counted : 0 < found.line
  pub line : slice_get (lines_of document.body) (found.line - 1) ≡ Some found.text
  pub hit : Passes pattern.line found.text
  pub admitted : Admits pattern found.name

-- by the names' bytes, as unsigned numbers, and then by line
abbrev pub hit_cmp : Hit → Hit → Ordering
hit_cmp = then_cmp (on (λ f. f.name) (slice_cmp nat_cmp)) (on (λ f. f.line) nat_cmp)

-- the lines that the pattern asks for, each once, in order
pub record IsScanOf (state : State) (pattern : Pattern) (scan : List Hit) : Type 0 where
  pub rises : IsStrictlySortedBy hit_cmp scan
  pub exact : (found : Hit) → Contains scan found ↔ IsHit state pattern found

-- the documents whose trigrams let them have a line that passes the test
abbrev pub candidates_of : State → Test → List Document
candidates_of state test = filter (λ d. can_have test (trigrams_of_body d.body)) (listed state.documents)

pub record IsAnswerOf (state : State) (pattern : Pattern) (answer : Answer) : Type 0 where
  pub version : answer.version ≡ state.version
  pub hits : IsScanOf state pattern answer.hits
  pub documents : answer.documents ≡ len state.documents
  pub candidates : answer.candidates ≡ length (candidates_of state pattern.line)

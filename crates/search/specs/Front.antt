-- The candidates whose names begin with texts with one of which every name begins that is asked for.
use Rattle.std.specs.Prelude.{◌≡◌, List, ℕ, filter, IsTrue}
use Rattle.prefixes.specs.Under.{is_under_one}
use Rattle.documents.specs.Documents.{Document, is_under_any}
use Rattle.documents.specs.State.{State}
use Rattle.prepare.specs.Pattern.{Admits, Pattern}
use Rattle.views.specs.Scan.{candidates_of}

-- Every name that is asked for begins with one of the texts.
abbrev pub AreFronts : Pattern → List (List ℕ) → Type 0
AreFronts pattern fronts = (name : List ℕ) → Admits pattern name → IsTrue (is_under_one fronts name)

-- all candidates whose names begin with such texts, rising by name
pub record AreFronted (state : State) (pattern : Pattern) (documents : List Document) : Type 0 where
  pub fronts : List (List ℕ)
  pub named : AreFronts pattern fronts
  pub are : documents ≡ filter (is_under_any fronts) (candidates_of state pattern.line)

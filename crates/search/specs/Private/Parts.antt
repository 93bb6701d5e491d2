-- The candidates that are taken first.
use Rattle.std.specs.Prelude.{◌≡◌, ℕ, ◌<◌, List, [], ◌++◌, length}
use Rattle.query.specs.Query.{Formula}
use Rattle.documents.specs.Shared.{AreCandidates}
use Rattle.documents.specs.declared.document.Candidates.{Candidates}
use Rattle.prepare.specs.Pattern.{Pattern}
use Rattle.search.specs.Front.{AreFronts}
use Rattle.documents.specs.State.{State}
use Rattle.documents.specs.declared.document.SharedDocument.{SharedDocument}
use Rattle.prepare.specs.Request.{Request}
use Rattle.search.specs.Taken.{IsTakenAmong}
use Rattle.search.specs.declared.taken.Taken.{Taken}

-- The first candidates were taken, in the order of their names: all, or at least so many.
pub record IsTakenUpTo (most : ℕ) (state : State) (request : Request) (taken : Taken) : Type 0 where
  pub others : List SharedDocument
  pub is : IsTakenAmong (taken.candidates.items ++ others) state request taken
  pub all_or_most : length taken.candidates.items < most → others ≡ []

-- How many documents meet the formula, and of those of them whose names begin as every name begins that is asked for the first ones.
pub record AreFirstFronted (most : ℕ) (state : State) (pattern : Pattern) (formula : Formula) (found : Candidates) : Type 0 where
  pub fronts : List (List ℕ)
  pub named : AreFronts pattern fronts
  pub are : AreCandidates formula fronts most state.documents found

-- The documents that an index hands out.
use Rattle.std.specs.Prelude.{◌≡◌, ℕ, ◌<◌, ◌&&◌, List, [], ◌++◌, AllPairs, map, filter, length}
use Rattle.query.specs.Query.{Formula}
use Rattle.documents.specs.declared.document.SharedDocument.{SharedDocument}
use Rattle.documents.specs.declared.document.Candidates.{Candidates}
use Rattle.documents.specs.Documents.{Document, Documents, document, listed, meets, is_under_any}

-- a document that an index hands out, as a value
abbrev pub document_of : SharedDocument → Document
document_of shared = document shared.name shared.held

-- documents that an index hands out, as values
abbrev pub documents_shared : List SharedDocument → List Document
documents_shared shared = map document_of shared

-- They are the first of these documents: all of them, or at least so many.
pub record AreFirst (most : ℕ) (documents first : List Document) : Type 0 where
  pub others : List Document
  pub whole : first ++ others ≡ documents
  pub all_or_most : length first < most → others ≡ []

-- Documents with the same number have the same body.
abbrev pub NumbersTellBodies : List SharedDocument → Type 0
NumbersTellBodies shared = AllPairs (λ d e. d.number ≡ e.number → d.held ≡ e.held) shared

-- The number of the documents whose trigrams meet the formula, and the first of those of them whose names begin with one of the texts.
-- What is handed out has the same number only where it has the same body.
pub record AreCandidates (formula : Formula) (texts : List (List ℕ)) (most : ℕ) (documents : Documents) (found : Candidates) : Type 0 where
  pub count : found.count ≡ length (filter (meets formula) (listed documents))
  pub first : AreFirst most (filter (λ d. meets formula d && is_under_any texts d) (listed documents)) (documents_shared found.documents.items)
  pub same : NumbersTellBodies found.documents.items

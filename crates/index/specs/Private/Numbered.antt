-- The documents of an index as it keeps them: each has the number of its content, by which it is found.
use Rattle.std.specs.Prelude.{◌≡◌, ◌≢◌, ℕ, ◌<◌, ◌≤◌, ◌==◌, ◌&&◌, Bool, if◌then◌else◌, List, [], ◌∷◌, ◌++◌, map, length, sum}
use Rattle.std.specs.Prelude.{All, AllPairs, Option, Some, None, bytes_eq, Contains, ◌↔◌}
use Rattle.std.specs.Ordering.{nat_cmp}
use Rattle.std.specs.Cmp.Lexicographic.{slice_cmp}
use Rattle.std.specs.List.{list_any}
use Rattle.std.specs.List.Sorted.{IsStrictlySortedBy}
use Rattle.query.specs.Trigrams.{trigrams_of_body}
use Rattle.query.specs.Query.{Formula, is_met}
use Rattle.posting.specs.ListValue.{has}
use Rattle.documents.specs.declared.document.SharedDocument.{SharedDocument}
use Rattle.documents.specs.Text.{IsName, IsBody}
use Rattle.prefixes.specs.Under.{begins_with, is_under_one}

-- A document, or a content with one of its names: its number is the place, among all commands and counted from 1, of the Put that made
-- the content.
pub record Document : Type 0 where
  pub number : ℕ
  pub name : List ℕ
  pub body : List ℕ

-- the document of a number, a name and a body
abbrev pub document : ℕ → List ℕ → List ℕ → Document
document number name body = record { number = number; name = name; body = body }

-- the name and the body of the document with this number
unfoldable pub document_at : ℕ → List Document → Option (List ℕ × List ℕ)
document_at number [] = None
document_at number (first ∷ others) =
    if first.number == number then Some (first.name, first.body) else document_at number others

-- the number of the document with this name
unfoldable pub number_of : List ℕ → List Document → Option ℕ
number_of name [] = None
number_of name (first ∷ others) = if bytes_eq first.name name then Some first.number else number_of name others

-- whether the document's name begins with the text
abbrev pub is_under : List ℕ → Document → Bool
is_under text d = begins_with text d.name

-- whether the name of some document begins with the text
abbrev pub has_under : List ℕ → List Document → Bool
has_under text documents = list_any (is_under text) documents

-- whether the trigrams of the document's body meet the formula
abbrev pub meets : Formula → Document → Bool
meets formula d = is_met formula (trigrams_of_body d.body)

-- whether the document's name begins with one of the texts
abbrev pub is_under_any : List (List ℕ) → Document → Bool
is_under_any texts d = is_under_one texts d.name

-- whether the document's number is one of these and its name begins with the text
abbrev pub is_picked : List ℕ → List ℕ → Document → Bool
is_picked numbers text d = has numbers d.number && is_under text d

-- the same with one of some texts
abbrev pub is_chosen : List ℕ → List (List ℕ) → Document → Bool
is_chosen numbers texts d = has numbers d.number && is_under_any texts d

-- names rise by their bytes, as unsigned numbers
abbrev pub RisesByName : List Document → Type 0
RisesByName documents = IsStrictlySortedBy (slice_cmp nat_cmp) (map (λ d. d.name) documents)

-- the same documents, each once, rising by name
pub record IsInNameOrder (documents ordered : List Document) : Type 0 where
  pub rises : RisesByName ordered
  pub same : (d : Document) → Contains ordered d ↔ Contains documents d

-- They are the first of these documents in the order of their names: all of them, or at least so many.
pub record AreFirstInNameOrder (most : ℕ) (documents first : List Document) : Type 0 where
  pub others : List Document
  pub in_order : IsInNameOrder documents (first ++ others)
  pub all_or_most : length first < most → others ≡ []

-- What an index keeps: how many commands were applied to it, and the documents that they leave.
pub record State : Type 0 where
  pub version : ℕ
  pub documents : List Document

-- the state of a version and documents
abbrev pub state : ℕ → List Document → State
state version documents = record { version = version; documents = documents }

-- the total length of all bodies, in bytes
abbrev pub body_bytes : List Document → ℕ
body_bytes documents = sum (map (λ d. length d.body) documents)

-- The document's number is from 1 to the version, its name is a name, and its body is a body.
abbrev pub IsGoodDocument : ℕ → Document → Type 0
IsGoodDocument version d = (0 < d.number) × (d.number ≤ version) × IsName d.name × IsBody d.body

-- Names rise, so no two documents have the same one, and documents with the same number have the same body.
pub record IsState (s : State) : Type 0 where
  pub rise : RisesByName s.documents
  pub good : All (λ d. IsGoodDocument s.version d) s.documents
  pub names : AllPairs (λ d e. d.name ≢ e.name) s.documents
  pub same : (d e : Document) → Contains s.documents d → Contains s.documents e → d.number ≡ e.number → d.body ≡ e.body

-- a document that is handed out, as a value
abbrev pub document_of : SharedDocument → Document
document_of shared = document shared.number shared.name shared.held

-- documents that are handed out, as values
abbrev pub documents_shared : List SharedDocument → List Document
documents_shared shared = map document_of shared

-- The documents that have the numbers of a list.
use Rattle.std.specs.Prelude.{◌≡◌, ℕ, ◌==◌, Bool, List, filter, bytes_eq, flat_map}
use Rattle.std.specs.Ordering.{nat_cmp, is_le, is_lt}
use Rattle.std.specs.List.Sorted.{IsSortedBy}
use Rattle.std.specs.Cmp.Lexicographic.{slice_cmp}
use Rattle.std.specs.BTreeMap.Range.{is_from_start}
use Rattle.std.specs.declared.ops.Bound.{Bound}
use Rattle.documents.specs.declared.document.SharedDocument.{SharedDocument}
use Rattle.index.specs.Private.Numbered.{Document}

-- those that have the content with a number
abbrev pub document_numbered : List Document → ℕ → List Document
document_numbered documents number = filter (λ d. d.number == number) documents

-- in the order of the numbers
abbrev pub documents_numbered : List Document → List ℕ → List Document
documents_numbered documents numbers = flat_map (document_numbered documents) numbers

-- the one with a name, if there is one
abbrev pub document_named : List Document → List ℕ → List Document
document_named documents name = filter (λ d. bytes_eq d.name name) documents

-- in the order of the names
abbrev pub documents_named : List Document → List (List ℕ) → List Document
documents_named documents names = flat_map (document_named documents) names

-- A name is at this start or behind it exactly if it is not below the text. So the names that begin with the text are
-- the first ones there.
abbrev pub IsFirstUnder : List ℕ → Bound (List ℕ) → Type 0
IsFirstUnder text first = (name : List ℕ) → is_from_start (slice_cmp nat_cmp) first name ≡ is_le (slice_cmp nat_cmp text name)

-- whether a document's name is below another's
abbrev pub is_before_by_name : SharedDocument → SharedDocument → Bool
is_before_by_name one other = is_lt (slice_cmp nat_cmp one.name other.name)

-- no document's name is below that of the one before it
abbrev pub AreSortedByName : List SharedDocument → Type 0
AreSortedByName documents = IsSortedBy is_before_by_name documents

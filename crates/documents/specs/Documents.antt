-- Which documents a list of commands leaves (this program's choice).
use Rattle.std.specs.Prelude.{◌≡◌, ℕ, not, ◌&&◌, ◌||◌, Bool, true, false, List, [], ◌∷◌, ◌++◌, map, filter, length, drop, nat_lt, bytes_eq}
use Rattle.std.specs.Ordering.{nat_cmp}
use Rattle.std.specs.Cmp.Lexicographic.{slice_cmp}
use Rattle.std.specs.FinMap.{FinMap, empty, insert, remove, retain_keys, contains_key, keys, entries, from_entries}
use Rattle.std.specs.List.{fold, list_any}
use Rattle.std.specs.List.Sorted.{IsStrictlySortedBy}
use Rattle.query.specs.Trigrams.{trigrams_of_body}
use Rattle.query.specs.Query.{Formula, is_met}
use Rattle.prefixes.specs.Under.{begins_with, is_under_one}
use Rattle.documents.specs.declared.command.Command.{Command}
use Rattle.documents.specs.declared.command.Command.TheVariants.{Put, Remove, RemoveUnder, CopyUnder}

-- the body under each name that has one
abbrev pub Documents : Type 0
Documents = FinMap (slice_cmp nat_cmp) (List ℕ)

-- whether a document has the name
abbrev pub is_taken : List ℕ → Documents → Bool
is_taken name documents = contains_key documents name

-- whether the name of some document begins with the text
abbrev pub has_under : List ℕ → Documents → Bool
has_under text documents = list_any (begins_with text) (keys documents)

-- the name with the text `to` in place of the text `from`, with which it begins
abbrev pub renamed : List ℕ → List ℕ → List ℕ → List ℕ
renamed from to name = to ++ drop (length from) name

-- the documents whose names begin with `from`, under the names with `to` in its place
abbrev pub copies : List ℕ → List ℕ → Documents → List (List ℕ × List ℕ)
copies from to documents = map (λ e. (renamed from to e.0, e.1)) (filter (λ e. begins_with from e.0) (entries documents))

-- whether the name of a copy would have more bytes than this
abbrev pub has_long_copy : ℕ → List ℕ → List ℕ → Documents → Bool
has_long_copy most from to documents = list_any (λ name. begins_with from name && nat_lt most (length (renamed from to name))) (keys documents)

-- The documents after one more command. Copies are of the documents before it, and take the places of those with the same names.
abbrev pub documents_after : Command → Documents → Documents
documents_after (Put name body) documents = insert documents name body
documents_after (Remove name) documents = remove documents name
documents_after (RemoveUnder prefix) documents = retain_keys documents (λ name. not (begins_with prefix name))
documents_after (CopyUnder from to) documents = from_entries (copies from to documents ++ entries documents)

-- the documents after each of these commands in turn
abbrev pub documents_from : Documents → List Command → Documents
documents_from documents commands = fold (λ ds command. documents_after command ds) documents commands

abbrev pub documents_of : List Command → Documents
documents_of commands = documents_from empty commands

pub record Document : Type 0 where
  pub name : List ℕ
  pub body : List ℕ

-- the document of a name and a body
abbrev pub document : List ℕ → List ℕ → Document
document name body = record { name = name; body = body }

-- the documents, rising by name
abbrev pub listed : Documents → List Document
listed documents = map (λ e. document e.0 e.1) (entries documents)

-- names rise by their bytes, as unsigned numbers
abbrev pub RisesByName : List Document → Type 0
RisesByName documents = IsStrictlySortedBy (λ d e. slice_cmp nat_cmp d.name e.name) documents

-- whether the document's name begins with one of the texts
abbrev pub is_under_any : List (List ℕ) → Document → Bool
is_under_any texts d = is_under_one texts d.name

-- whether the trigrams of the document's body meet the formula
abbrev pub meets : Formula → Document → Bool
meets formula d = is_met formula (trigrams_of_body d.body)

-- whether the command, with these documents before it, bears on this name: a Put or a Remove on its own, a RemoveUnder on each that
-- begins with its prefix, a CopyUnder on each that a copy gets
abbrev pub bears_on : List ℕ → Documents → Command → Bool
bears_on other documents (Put name body) = bytes_eq name other
bears_on other documents (Remove name) = bytes_eq name other
bears_on other documents (RemoveUnder prefix) = begins_with prefix other
bears_on other documents (CopyUnder from to) = begins_with to other && is_taken (renamed to from other) documents

-- whether one of the commands, which come one after the other after these documents, bears on the name
abbrev pub is_touched : List ℕ → Documents → List Command → Bool
is_touched name documents [] = false
is_touched name documents (command ∷ later) = bears_on name documents command || is_touched name (documents_after command documents) later

-- In other words, a document has the body of the last Put of its name, on which no later command bears; or it is a copy, on which no
-- later command bears, and has the body that the document it is copied from had then.
pub data IsPutLast : List Command → List ℕ → List ℕ → Type 0 where
  was_put : {commands : List Command} {name body : List ℕ} (before later : List Command) → commands ≡ before ++ Put name body ∷ later
      → is_touched name (documents_of (before ++ Put name body ∷ [])) later ≡ false → IsPutLast commands name body
  was_copied : {commands : List Command} {name body : List ℕ} (before later : List Command) (from to : List ℕ)
      → commands ≡ before ++ CopyUnder from to ∷ later → begins_with to name ≡ true → IsPutLast before (renamed to from name) body
      → is_touched name (documents_of (before ++ CopyUnder from to ∷ [])) later ≡ false → IsPutLast commands name body

-- The documents that have some contents.
use Rattle.std.specs.Prelude.{◌≡◌, ℕ, ◌<◌, ◌&&◌, Bool, List, [], ◌++◌, map, filter, length}
use Rattle.prefixes.specs.Under.{is_under_one}
use Rattle.documents.specs.declared.document.SharedDocument.{SharedDocument}
use Rattle.documents.specs.declared.document.Candidates.{Candidates}
use Rattle.segments.specs.Contents.{has}
use Rattle.versions.specs.Private.Version.{Entry}

-- a document that is handed out, as an entry
abbrev pub shared_entry : SharedDocument → Entry
shared_entry d = (d.name, record { number = d.number; held = d.held })

abbrev pub shared_entries : List SharedDocument → List Entry
shared_entries shared = map shared_entry shared

-- whether the entry's content is one of these
abbrev pub is_chosen : List ℕ → Entry → Bool
is_chosen numbers e = has numbers e.1.number

-- and its name begins with one of these texts
abbrev pub is_wanted : List ℕ → List (List ℕ) → Entry → Bool
is_wanted numbers texts e = has numbers e.1.number && is_under_one texts e.0

-- They are the first of these entries: all of them, or at least so many.
pub record AreFirstEntries (most : ℕ) (all first : List Entry) : Type 0 where
  pub others : List Entry
  pub whole : first ++ others ≡ all
  pub all_or_most : length first < most → others ≡ []

-- the number of the entries with these contents, and the first of those under the texts
pub record AreGathered (numbers : List ℕ) (texts : List (List ℕ)) (most : ℕ) (es : List Entry) (found : Candidates) : Type 0 where
  pub count : found.count ≡ length (filter (is_chosen numbers) es)
  pub first : AreFirstEntries most (filter (is_wanted numbers texts) es) (shared_entries found.documents.items)

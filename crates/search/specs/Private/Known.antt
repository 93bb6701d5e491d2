-- The contents that were matched before the documents.
use Rattle.std.specs.Prelude.{◌≡◌, ℕ, ◌+◌, ◌-◌, ◌⊎◌, true, min, List, [], ◌++◌, length, map, All, Option, Some, None}
use Rattle.documents.specs.declared.document.SharedDocument.{SharedDocument}
use Rattle.prepare.specs.Pattern.{Test}
use Rattle.prepare.specs.Tests.{test_of}
use Rattle.views.specs.Found.{Hit, lines_of_document}
use Rattle.views.specs.Places.{hit_in}
use Rattle.views.specs.declared.places.Place.{Place}
use Rattle.search.specs.Private.Added.{AddsUpTo, IsPlaceIn, IsReached}
use Rattle.search.specs.Private.Documents.{lines_of_taken}
use Rattle.search.specs.Selects.{Selects, IsAsked}
use Rattle.search.specs.declared.gathered.Wanted.{Wanted}
use Rattle.search.specs.declared.known.Entry.{Entry}

-- The document has the body that its number tells.
abbrev pub HasBody : (ℕ → List ℕ) → SharedDocument → Type 0
HasBody body document = document.held ≡ body document.number

-- So has the entry.
abbrev pub EntryHasBody : (ℕ → List ℕ) → Entry → Type 0
EntryHasBody body entry = entry.held ≡ body entry.number

-- The places are in the entry's body.
abbrev pub IsInside : Entry → Type 0
IsInside entry = All (IsPlaceIn 0 entry.held) entry.places.items

-- Its places are those of the lines of its body that pass the test, under this name; if they are not all, the last ones are missing.
pub record IsUnder (test : Test) (entry : Entry) (name : List ℕ) : Type 0 where
  pub rest : List Hit
  pub selected : Selects (IsAsked test) (lines_of_document name entry.held) (map (hit_in name entry.held) entry.places.items ++ rest)
  pub whole : entry.whole ≡ true → rest ≡ []

-- Its places are in its body, and are those of the lines that pass the test, under each name.
pub record IsEntry (test : Test) (entry : Entry) : Type 0 where
  pub inside : IsInside entry
  pub under : (name : List ℕ) → IsUnder test entry name

-- It has so many places as are looked for, where there are `before` already, or all.
abbrev pub HasEnough : Option ℕ → ℕ → Entry → Type 0
HasEnough most before entry = (entry.whole ≡ true) ⊎ IsReached most (before + length entry.places.items)

-- how many of so many places are added behind `before`, until there are as many as are looked for
abbrev pub room_for : Option ℕ → ℕ → ℕ → ℕ
room_for None before count = count
room_for (Some most) before count = min (most - before) count

-- the place, in the document with this number
abbrev pub moved_to : ℕ → Place → Place
moved_to document place = record { document = document; line = place.line; start = place.start; end = place.end }

-- All that is known holds for the test of what is wanted.
abbrev pub Knows : Wanted → Type 0
Knows wanted = All (IsEntry (test_of wanted.prepared.now.line)) wanted.known.now.entries.items

-- Where the document has the number of an entry, it has its body.
abbrev pub IsTold : List Entry → SharedDocument → Type 0
IsTold entries document = All (λ entry. entry.number ≡ document.number → entry.held ≡ document.held) entries

-- The hits of the document are added, until there are as many as are looked for; where it has the number of an entry, but not its body,
-- of another document.
pub record FindsHits (wanted : Wanted) (document : SharedDocument) (most : Option ℕ) (old new : List Hit) : Type 0 where
  pub own : SharedDocument
  pub told : IsTold wanted.known.now.entries.items document → own ≡ document
  pub adds : AddsUpTo most (IsAsked (test_of wanted.prepared.now.line)) (lines_of_taken own) old new

-- So do all of these documents.
abbrev pub AreTold : Wanted → List SharedDocument → Type 0
AreTold wanted documents = All (IsTold wanted.known.now.entries.items) documents

-- The places that are added for the lines of one document.
use Rattle.std.specs.Prelude.{◌≡◌, ℕ, ◌+◌, ◌≤◌, ◌⊎◌, Option, Some, None, List, [], ◌++◌, length, map, slice_range, All}
use Rattle.lines.specs.Lines.{lines_of}
use Rattle.views.specs.declared.places.Place.{Place}
use Rattle.prepare.specs.Pattern.{Test}
use Rattle.views.specs.Found.{Hit}
use Rattle.views.specs.Places.{hit_in}
use Rattle.search.specs.Selects.{Selects, IsAsked}
use Rattle.views.specs.Found.{numbered}

-- The body has this text from this offset on.
pub record HasTextAt (body : List ℕ) (offset : ℕ) (text : List ℕ) : Type 0 where
  pub inside : offset + length text ≤ length body
  pub same : slice_range body offset (offset + length text) ≡ text

-- The place is in the document with this number, and in its body.
pub record IsPlaceIn (number : ℕ) (body : List ℕ) (place : Place) : Type 0 where
  pub document : place.document ≡ number
  pub ordered : place.start ≤ place.end
  pub inside : place.end ≤ length body

-- The new places are the old ones, followed by those of the lines that pass the test, all in the document with this
-- number, this name and this body.
pub record AddsPlaces (test : Test) (document : ℕ) (name body : List ℕ) (lines : List Hit) (old new : List Place) : Type 0 where
  pub added : List Place
  pub appended : new ≡ old ++ added
  pub inside : All (IsPlaceIn document body) added
  pub selected : Selects (IsAsked test) lines (map (hit_in name body) added)

-- There are as many as are looked for, if a number is.
abbrev pub IsReached : Option ℕ → ℕ → Type 0
IsReached None count = ⊥
IsReached (Some most) count = most ≤ count

-- The same, but places of the last lines are missing if there are as many as are looked for.
pub record AddsPlacesUpTo (most : Option ℕ) (test : Test) (document : ℕ) (name body : List ℕ) (lines : List Hit) (old new : List Place) : Type 0 where
  pub added : List Place
  pub appended : new ≡ old ++ added
  pub inside : All (IsPlaceIn document body) added
  pub rest : List Hit
  pub selected : Selects (IsAsked test) lines (map (hit_in name body) added ++ rest)
  pub ended : (rest ≡ []) ⊎ IsReached most (length new)

-- The same for a text that is at this offset of the body, and whose first line has the number `line`, in a document
-- with any name.
abbrev pub AddsLinesUpTo : Option ℕ → Test → ℕ → List ℕ → ℕ → ℕ → List ℕ → List Place → List Place → Type 0
AddsLinesUpTo most test document body offset line text old new =
    (name : List ℕ) → HasTextAt body offset text → AddsPlacesUpTo most test document name body (numbered name line (lines_of text)) old new

-- The new list is the old one, followed by those of `all` that have the property; the last of them are missing if there are as many
-- as are looked for.
pub record AddsUpTo (most : Option ℕ) (Has : Hit → Type 0) (all old new : List Hit) : Type 0 where
  pub added : List Hit
  pub appended : new ≡ old ++ added
  pub rest : List Hit
  pub selected : Selects Has all (added ++ rest)
  pub ended : (rest ≡ []) ⊎ IsReached most (length new)

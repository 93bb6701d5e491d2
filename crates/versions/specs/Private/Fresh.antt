-- Contents that are in no segment yet.
use Rattle.std.specs.Prelude.{◌≡◌, ◌≢◌, ℕ, ◌+◌, ◌<◌, ◌≤◌, List, [], ◌∷◌, ◌++◌, Option, Some, None, map, length, get_or, is_some, true, All}
use Rattle.std.specs.Borrow.{Bor}
use Rattle.std.specs.List.Sorted.{IsStrictlyIncreasing}
use Rattle.names.specs.declared.content.Content.{Content}
use Rattle.query.specs.Trigrams.{trigrams_of_body}
use Rattle.segments.specs.Contents.{Content as Trigrams, AreInOrder, has}
use Rattle.versions.specs.Private.Version.{Entry, IsSaid}

abbrev pub no_entry : Entry
no_entry = ([], record { number = 0; held = [] })

abbrev pub entry_at : List Entry → ℕ → Entry
entry_at es place = get_or es place no_entry

-- contents as they are given, as entries without a name
abbrev pub as_entry : Bor Content → Entry
as_entry content = ([], content.now)

abbrev pub unnamed : List (Bor Content) → List Entry
unnamed contents = map as_entry contents

abbrev pub number_at : List Entry → ℕ → ℕ
number_at es place = (entry_at es place).1.number

-- For each number from `first` on, so many, the place of an entry that has it, if one of those before `done` has it.
pub record ArePlaces (first count : ℕ) (es : List Entry) (done : ℕ) (places : List (Option ℕ)) : Type 0 where
  pub count_is : length places ≡ count
  pub tells : (k place : ℕ) → get_or places k None ≡ Some place → (place < length es) × (number_at es place ≡ first + k)
  pub found : (i k : ℕ) → i < done → number_at es i ≡ first + k → k < count → is_some (get_or places k None) ≡ true

-- The number has this place now, if it is one of those from `first` on.
pub record SetsPlace (first number place : ℕ) (old new : List (Option ℕ)) : Type 0 where
  pub length_is : length new ≡ length old
  pub here : (k : ℕ) → k < length old → number ≡ first + k → get_or new k None ≡ Some place
  pub others : (k : ℕ) → number ≢ first + k → get_or new k None ≡ get_or old k None

-- It is the body with this number: its trigrams are those of the body, and rise.
pub record IsContentOf (number : ℕ) (body : List ℕ) (content : Trigrams) : Type 0 where
  pub number_is : content.number ≡ number
  pub rising : IsStrictlyIncreasing content.trigrams
  pub same : (t : ℕ) → has content.trigrams t ≡ trigrams_of_body body t

-- The body with this number is one more content.
pub record AddsContent (number : ℕ) (body : List ℕ) (before after : List Trigrams) : Type 0 where
  pub content : Trigrams
  pub is : IsContentOf number body content
  pub whole : after ≡ before ++ content ∷ []

-- The contents of the entries with numbers from `first` on, as far as `end`, are analysed, and no others.
pub record AreAnalysed (first end : ℕ) (es : List Entry) (all : List Trigrams) : Type 0 where
  pub in_order : AreInOrder all
  pub from : All (λ c. first ≤ c.number) all
  pub below : All (λ c. c.number < end) all
  pub found : (i : ℕ) → i < length es → first ≤ number_at es i → number_at es i < end → IsSaid all (entry_at es i).1

-- Entries with the same number have the same body.
abbrev pub NumbersTell : List Entry → Type 0
NumbersTell es = (i j : ℕ) → i < length es → j < length es → number_at es i ≡ number_at es j → (entry_at es i).1.held ≡ (entry_at es j).1.held

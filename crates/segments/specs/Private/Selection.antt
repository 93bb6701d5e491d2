-- Which of a list of places meet a query.
use Rattle.std.specs.Prelude.{ℕ, ◌<◌, ◌≤◌, List, Option, Some, None, All, length, slice_index, filter}
use Rattle.std.specs.Borrow.{Bor}
use Rattle.std.specs.List.Sorted.{IsStrictlyIncreasing}
use Rattle.query.specs.Trigrams.{TrigramSet}
use Rattle.query.specs.Query.{Formula, is_met}
use Rattle.segments.specs.Contents.{has}
use Rattle.segments.specs.Private.Below.{numbers_below}
use Rattle.segments.specs.Private.Table.{PlaceSet, places_of}

-- the trigrams whose sets have the place
abbrev pub trigrams_with : List PlaceSet → ℕ → TrigramSet
trigrams_with sets place = λ trigram. has (places_of sets trigram) place

-- those of the places whose trigrams meet the formula
abbrev pub chosen : List PlaceSet → Formula → List ℕ → List ℕ
chosen sets formula places = filter (λ p. is_met formula (trigrams_with sets p)) places

-- the places among which it is looked: those of a list, or all below `count`
abbrev pub places_within : ℕ → Option (Bor (List ℕ)) → List ℕ
places_within count None = numbers_below count
places_within count (Some places) = places.now

-- The places of each set rise, and are below `count`.
pub record Fits (count : ℕ) (sets : List PlaceSet) : Type 0 where
  pub few : count ≤ 4294967296
  pub rising : All (λ s. IsStrictlyIncreasing s.places) sets
  pub below : All (λ s. All (λ p. p < count) s.places) sets

-- The place is the first with a number that is not below this one.
pub record IsReached (numbers : List ℕ) (number place : ℕ) : Type 0 where
  pub within : place ≤ length numbers
  pub below : (k : ℕ) → k < place → slice_index numbers k < number
  pub at : place < length numbers → number ≤ slice_index numbers place

-- The numbers rise; as a record, so that a search takes it as it stands.
pub record Rises (numbers : List ℕ) : Type 0 where
  pub rising : IsStrictlyIncreasing numbers

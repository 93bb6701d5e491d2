-- Contents of several segments that become those of one.
use Rattle.std.specs.Prelude.{◌≡◌, ℕ, ◌<◌, Bool, true, false, ◌&&◌, ◌||◌, ◌==◌, ◌⊎◌, List, [], ◌∷◌, ◌++◌, length, All, Option, Some, None, slice_index, slice_index_or}
use Rattle.std.specs.List.{list_any}
use Rattle.std.specs.List.Sorted.{IsStrictlyIncreasing}
use Rattle.segments.specs.Contents.{Content, has, numbers_of}
use Rattle.segments.specs.Private.Table.{PlaceSet, place_set, trigrams_of}
use Rattle.segments.specs.Private.Keys.{key, keys_of}

-- whether a content with this number has the trigram
abbrev pub says : List Content → ℕ → ℕ → Bool
says contents number trigram = list_any (λ c. c.number == number && has c.trigrams trigram) contents

-- whether it is this place
abbrev pub is_place : Option ℕ → ℕ → Bool
is_place None place = false
is_place (Some target) place = target == place

-- It is the place of the number among these, if it is there.
abbrev pub IsPlaceAmong : List ℕ → ℕ → Option ℕ → Type 0
IsPlaceAmong numbers number place = (q : ℕ) → q < length numbers → is_place place q ≡ (number == slice_index numbers q)

-- If there is a place, it is below this number.
abbrev pub IsWithin : ℕ → Option ℕ → Type 0
IsWithin count None = Unit {0}
IsWithin count (Some place) = place < count

-- For each number its place among the others.
pub record AreTargets (from numbers : List ℕ) (targets : List (Option ℕ)) : Type 0 where
  pub same : length targets ≡ length from
  pub within : All (IsWithin (length numbers)) targets
  pub places : (p : ℕ) → p < length from → IsPlaceAmong numbers (slice_index from p) (slice_index_or targets p None)

-- the target of a place
abbrev pub target_of : List (Option ℕ) → ℕ → Option ℕ
target_of targets place = slice_index_or targets place None

-- Those numbers' places were added whose contents have the trigram, as far as they are among these contents with these targets.
pub record AddsPlaces (trigram : ℕ) (targets : List (Option ℕ)) (contents : List Content) (old new : List ℕ) : Type 0 where
  pub same : (numbers : List ℕ) → AreTargets (numbers_of contents) numbers targets → (q : ℕ) → q < length numbers
      → has new q ≡ (has old q || says contents (slice_index numbers q) trigram)
  pub below : (numbers : List ℕ) → AreTargets (numbers_of contents) numbers targets → All (λ p. p < length numbers) old
      → All (λ p. p < length numbers) new

-- Each trigram of the contents, which rise in each, is one of these.
pub record HasTrigrams (contents : List Content) (trigrams : List ℕ) : Type 0 where
  pub all : (n t : ℕ) → says contents n t ≡ true → has trigrams t ≡ true
  pub rising : All (λ c. IsStrictlyIncreasing c.trigrams) contents

-- The trigrams of the contents were added.
pub record AddsTrigrams (contents : List Content) (old new : List ℕ) : Type 0 where
  pub still : (t : ℕ) → has old t ≡ true → has new t ≡ true
  pub added : HasTrigrams contents new

-- There is one more set; if it would have no places, there is none more.
abbrev pub IsWithSet : List PlaceSet → ℕ → List ℕ → List PlaceSet → Type 0
IsWithSet old trigram places new = (new ≡ old ++ place_set trigram places ∷ []) ⊎ ((new ≡ old) × (places ≡ []))

-- The sets are those of the contents that have one of these numbers, by their places among the numbers.
pub record IsJoined (numbers : List ℕ) (contents : List Content) (sets : List PlaceSet) : Type 0 where
  pub trigrams : IsStrictlyIncreasing (trigrams_of sets)
  pub rising : All (λ s. IsStrictlyIncreasing s.places) sets
  pub below : All (λ s. All (λ p. p < length numbers) s.places) sets
  pub same : (t q : ℕ) → q < length numbers → has (keys_of sets) (key t q) ≡ says contents (slice_index numbers q) t
  pub order : All (λ c. IsStrictlyIncreasing c.trigrams) contents

-- These are the numbers that are to be kept.
pub record AreKept (numbers keep kept : List ℕ) : Type 0 where
  pub rising : IsStrictlyIncreasing kept
  pub small : All (λ n. n < 4294967296) kept
  pub same : (n : ℕ) → has kept n ≡ (has numbers n && has keep n)

-- How sets of places lie in memory: the trigram of each set, where its bytes end among all bytes, and the bytes.
use Rattle.std.specs.Prelude.{◌≡◌, ℕ, zero, suc, ◌≤◌, ◌<◌, Result, MatchResult, if◌then◌else◌, ◌==◌, List, [], ◌∷◌, map, length, min, slice_index}
use Rattle.std.specs.List.{slice_range, sum_by}
use Rattle.std.specs.List.Sorted.{IsStrictlyIncreasing}
use Rattle.segments.specs.Private.PlaceBytes.{places_in, IsPlaceBytes}

-- the places of the contents that have a trigram, rising
pub record PlaceSet : Type 0 where
  pub trigram : ℕ
  pub places : List ℕ

abbrev pub place_set : ℕ → List ℕ → PlaceSet
place_set trigram places = record { trigram = trigram; places = places }

-- the places of the trigram's set; without a set there are none
abbrev pub places_of : List PlaceSet → ℕ → List ℕ
places_of [] trigram = []
places_of (s ∷ sets) trigram = if s.trigram == trigram then s.places else places_of sets trigram

abbrev pub trigrams_of : List PlaceSet → List ℕ
trigrams_of sets = map (λ s. s.trigram) sets

-- the sets of these trigrams, of places below `count`; the bytes of the first one begin at `from`
unfoldable pub sets_from : ℕ → ℕ → List ℕ → List ℕ → List ℕ → List PlaceSet
sets_from count from [] ends bytes = []
sets_from count from (t ∷ ts) [] bytes = []
sets_from count from (t ∷ ts) (e ∷ es) bytes = place_set t (places_in count (slice_range bytes from e)) ∷ sets_from count e ts es bytes

-- where the number is among these, which rise, or where it would be
abbrev pub IsSought : List ℕ → ℕ → Result ℕ ℕ → Type 0
IsSought numbers number sought =
    MatchResult sought (λ i. (i < length numbers) × (slice_index numbers i ≡ number))
    (λ i. (i ≤ length numbers) × ((k : ℕ) → k < i → slice_index numbers k < number) × ((k : ℕ) → i ≤ k → k < length numbers → number < slice_index numbers k))

-- the first of the numbers that is not below this one is at the place
abbrev pub IsFirstNotBelow : List ℕ → ℕ → ℕ → Type 0
IsFirstNotBelow numbers number place =
    (place < length numbers) × (number ≤ slice_index numbers place) × ((k : ℕ) → k < place → slice_index numbers k < number)

-- the last end
unfoldable pub last_end : ℕ → List ℕ → ℕ
last_end from [] = from
last_end from (e ∷ es) = last_end e es

-- where the bytes of the set with this number begin
abbrev pub begin_at : ℕ → List ℕ → ℕ → ℕ
begin_at from ends zero = from
begin_at from ends (suc i) = slice_index ends i

-- The ends rise from `from` to `total`.
unfoldable pub AreEnds : ℕ → List ℕ → ℕ → Type 0
AreEnds from [] total = from ≤ total
AreEnds from (e ∷ es) total = (from ≤ e) × AreEnds e es total

-- The bytes up to each end, the first from `from` on, are those of a set of places below `count`.
unfoldable pub AreSpelled : ℕ → ℕ → List ℕ → List ℕ → Type 0
AreSpelled count from [] bytes = Unit {0}
AreSpelled count from (e ∷ es) bytes = IsPlaceBytes count (slice_range bytes from e) × AreSpelled count e es bytes

-- The arrays are those of sets of places below `count`.
pub record IsTable (count : ℕ) (ts es bytes : List ℕ) : Type 0 where
  pub few : count ≤ 4294967296
  pub same : length ts ≡ length es
  pub rising : IsStrictlyIncreasing ts
  pub ends : AreEnds 0 es (length bytes)
  pub whole : last_end 0 es ≡ length bytes
  pub spelled : AreSpelled count 0 es bytes

-- how many places all sets have together, or 2^64 - 1 if they have more
abbrev pub places_in_all : List PlaceSet → ℕ
places_in_all sets = min (sum_by (λ s. length s.places) sets) 18446744073709551615

-- The same, and so many places are in the sets.
pub record IsCountedTable (count : ℕ) (ts es bytes : List ℕ) (pairs : ℕ) : Type 0 where
  pub table : IsTable count ts es bytes
  pub counted : pairs ≡ places_in_all (sets_from count 0 ts es bytes)

-- sets of places below `count`
pub record Laid : Type 0 where
  pub count : ℕ
  pub sets : List PlaceSet

abbrev pub laid : ℕ → List PlaceSet → Laid
laid count sets = record { count = count; sets = sets }

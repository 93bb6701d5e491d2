-- A trigram and a place in one number, so that sets of places can be sorted.
use Rattle.std.specs.Prelude.{◌≡◌, ◌≢◌, ℕ, ◌+◌, ◌*◌, ◌/◌, ◌%◌, ◌<◌, ◌≤◌, List, [], ◌∷◌, ◌++◌, map, length, take, All, slice_index}
use Rattle.std.specs.List.Sorted.{IsStrictlyIncreasing}
use Rattle.segments.specs.Contents.{has}
use Rattle.segments.specs.Private.Table.{PlaceSet, trigrams_of}

-- keys rise by their trigrams, and by their places within a trigram
abbrev pub key : ℕ → ℕ → ℕ
key trigram place = 4294967296 * trigram + place

abbrev pub trigram_in : ℕ → ℕ
trigram_in k = k / 4294967296

abbrev pub place_in : ℕ → ℕ
place_in k = k % 4294967296

-- the keys of the sets, in order
unfoldable pub keys_of : List PlaceSet → List ℕ
keys_of [] = []
keys_of (s ∷ sets) = map (key s.trigram) s.places ++ keys_of sets

-- The places of the keys are below `count`.
pub record AreKeysBelow (count : ℕ) (keys : List ℕ) : Type 0 where
  pub few : count ≤ 4294967296
  pub below : All (λ k. place_in k < count) keys

-- The sets are in order, and the trigrams of the keys are above theirs.
pub record Precedes (sets : List PlaceSet) (keys : List ℕ) : Type 0 where
  pub rising : IsStrictlyIncreasing (trigrams_of sets)
  pub places : All (λ s. IsStrictlyIncreasing s.places) sets
  pub small : All (λ s. All (λ p. p < 4294967296) s.places) sets
  pub other : 0 < length keys → All (λ s. s.trigram < trigram_in (slice_index keys 0)) sets

-- The keys before `start` were added to the old sets, and those from there on have other trigrams.
pub record Adds (old : List PlaceSet) (keys : List ℕ) (start : ℕ) (new : List PlaceSet) : Type 0 where
  pub within : start ≤ length keys
  pub is : keys_of new ≡ keys_of old ++ take start keys
  pub rising : IsStrictlyIncreasing (trigrams_of new)
  pub other : start < length keys → All (λ s. s.trigram < trigram_in (slice_index keys start)) new
  pub places : All (λ s. IsStrictlyIncreasing s.places) new
  pub small : All (λ s. All (λ p. p < 4294967296) s.places) new

-- The keys from `start` to `end` are all those from `start` on that have one trigram.
pub record IsRun (keys : List ℕ) (start end : ℕ) : Type 0 where
  pub nonempty : start < end
  pub within : end ≤ length keys
  pub same : (i : ℕ) → start ≤ i → i < end → trigram_in (slice_index keys i) ≡ trigram_in (slice_index keys start)
  pub other : end < length keys → trigram_in (slice_index keys end) ≢ trigram_in (slice_index keys start)

-- The sets have these keys, each once.
pub record HasKeys (keys : List ℕ) (sets : List PlaceSet) : Type 0 where
  pub rising : IsStrictlyIncreasing (trigrams_of sets)
  pub places : All (λ s. IsStrictlyIncreasing s.places) sets
  pub small : All (λ s. All (λ p. p < 4294967296) s.places) sets
  pub same : (k : ℕ) → has (keys_of sets) k ≡ has keys k
  pub below : (n : ℕ) → All (λ k. place_in k < n) keys → All (λ k. place_in k < n) (keys_of sets)

-- Contents as their numbers and the keys of their trigrams, in any order.
use Rattle.std.specs.Prelude.{◌≡◌, ℕ, ◌<◌, List, ◌++◌, map, filter, length, All, slice_index}
use Rattle.std.specs.List.Sorted.{IsStrictlyIncreasing, IsNonDecreasingBy}
use Rattle.query.specs.Trigrams.{trigrams_of_body}
use Rattle.segments.specs.Contents.{Content, has}
use Rattle.segments.specs.Private.Below.{numbers_below}
use Rattle.segments.specs.Private.Keys.{key, trigram_in, place_in}

-- the trigrams that have a key with the place, rising
abbrev pub trigrams_keyed : List ℕ → ℕ → List ℕ
trigrams_keyed keys place = filter (λ t. has keys (key t place)) (numbers_below 16777216)

abbrev pub content_keyed : List ℕ → List ℕ → ℕ → Content
content_keyed numbers keys place = record { number = slice_index numbers place; trigrams = trigrams_keyed keys place }

-- the contents with these numbers and keys
unfoldable pub contents_keyed : List ℕ → List ℕ → List Content
contents_keyed numbers keys = map (content_keyed numbers keys) (numbers_below (length numbers))

-- The keys are those of contents with these numbers, one content's after the other's.
pub record AreKeyed (ns ks : List ℕ) : Type 0 where
  pub rising : IsStrictlyIncreasing ns
  pub small : All (λ n. n < 4294967296) ns
  pub places : All (λ k. place_in k < length ns) ks
  pub trigrams : All (λ k. trigram_in k < 16777216) ks
  pub order : IsNonDecreasingBy place_in ks

-- the keys of trigrams with one place
abbrev pub keys_at : ℕ → List ℕ → List ℕ
keys_at place trigrams = map (λ t. key t place) trigrams

-- The keys of the body's trigrams with this place were added, in some order.
pub record AddsBody (body : List ℕ) (place : ℕ) (old new : List ℕ) : Type 0 where
  pub added : List ℕ
  pub is : new ≡ old ++ keys_at place added
  pub same : (t : ℕ) → has added t ≡ trigrams_of_body body t

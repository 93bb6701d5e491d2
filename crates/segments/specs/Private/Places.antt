-- The contents that sets of places stand for.
use Rattle.std.specs.Prelude.{ℕ, ◌<◌, List, map, filter, length, All, slice_index}
use Rattle.std.specs.List.Sorted.{IsStrictlyIncreasing}
use Rattle.segments.specs.Contents.{Content, has}
use Rattle.segments.specs.Private.Below.{numbers_below}
use Rattle.segments.specs.Private.Table.{PlaceSet, trigrams_of}

-- the trigrams whose sets have the place
abbrev pub trigrams_at : List PlaceSet → ℕ → List ℕ
trigrams_at sets place = trigrams_of (filter (λ s. has s.places place) sets)

-- the content at a place: the number there, and the trigrams whose sets have the place
abbrev pub content_at : List ℕ → List PlaceSet → ℕ → Content
content_at numbers sets place = record { number = slice_index numbers place; trigrams = trigrams_at sets place }

-- the contents at all places
unfoldable pub contents_at : List ℕ → List PlaceSet → List Content
contents_at numbers sets = map (content_at numbers sets) (numbers_below (length numbers))

-- The sets are those of contents with these numbers.
pub record IsSegment (ns : List ℕ) (sets : List PlaceSet) : Type 0 where
  pub numbers : IsStrictlyIncreasing ns
  pub small : All (λ n. n < 4294967296) ns
  pub trigrams : IsStrictlyIncreasing (trigrams_of sets)
  pub rising : All (λ s. IsStrictlyIncreasing s.places) sets
  pub below : All (λ s. All (λ p. p < length ns) s.places) sets

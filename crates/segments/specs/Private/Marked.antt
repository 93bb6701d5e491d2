-- Marks for trigrams: the trigram 8 k + j is bit j of byte k.
use Rattle.std.specs.Prelude.{◌≡◌, ◌≢◌, ℕ, ◌/◌, ◌<◌, ◌==◌, ◌||◌, false, List, map, length, drop, All, slice_index}
use Rattle.segments.specs.Contents.{has}
use Rattle.segments.specs.Private.Bits.{is_marked}
use Rattle.segments.specs.Private.Keys.{trigram_in}
use Rattle.segments.specs.Private.Keyed.{AddsBody}

-- No trigram is marked.
pub record AreClear (marks : List ℕ) : Type 0 where
  pub whole : length marks ≡ 2097152
  pub none : (k : ℕ) → slice_index marks k ≡ 0

-- the bytes in which the trigrams of keys are marked
abbrev pub mark_bytes : List ℕ → List ℕ
mark_bytes keys = map (λ k. trigram_in k / 8) keys

-- No trigram is marked but in the bytes of these keys.
pub record AreMarksOf (keys marks : List ℕ) : Type 0 where
  pub whole : length marks ≡ 2097152
  pub small : All (λ k. trigram_in k < 16777216) keys
  pub other : (k : ℕ) → has (mark_bytes keys) k ≡ false → slice_index marks k ≡ 0

-- The trigram was marked.
pub record MarksToo (old : List ℕ) (trigram : ℕ) (new : List ℕ) : Type 0 where
  pub whole : length new ≡ length old
  pub marked : (t : ℕ) → is_marked new t ≡ (is_marked old t || t == trigram)
  pub other : (k : ℕ) → k ≢ trigram / 8 → slice_index new k ≡ slice_index old k

-- The keys of the body's trigrams were added, and the marks are those of these keys.
pub record AddsMarked (body : List ℕ) (place : ℕ) (old new marks : List ℕ) : Type 0 where
  pub adds : AddsBody body place old new
  pub are : AreMarksOf (drop (length old) new) marks

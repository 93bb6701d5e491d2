-- How the set of a trigram's places, which are below `count`, lies in memory: as gaps if these take fewer bytes than a bit for each place
-- below `count`, else as these bits. So the length of the bytes tells which, and equal sets are equal bytes.
use Rattle.std.specs.Prelude.{◌≡◌, ℕ, ◌<◌, ◌≤◌, if◌then◌else◌, nat_lt, List, All, length}
use Rattle.std.specs.List.Sorted.{IsStrictlyIncreasing}
use Rattle.segments.specs.Private.Gaps.{gap_bytes, numbers_after}
use Rattle.segments.specs.Private.Bits.{width, bit_bytes, marked_below}

-- the bytes of a set
abbrev pub set_bytes : ℕ → List ℕ → List ℕ
set_bytes count places = if nat_lt (length (gap_bytes places)) (width count) then gap_bytes places else bit_bytes count places

-- the places in these bytes
abbrev pub places_in : ℕ → List ℕ → List ℕ
places_in count bytes = if nat_lt (length bytes) (width count) then numbers_after 0 bytes else marked_below count bytes

-- The places rise, and each is below `count`.
pub record AreBelow (count : ℕ) (places : List ℕ) : Type 0 where
  pub few : count ≤ 4294967296
  pub rising : IsStrictlyIncreasing places
  pub below : All (λ p. p < count) places

-- The bytes are those of a set of places below `count`.
pub record IsPlaceBytes (count : ℕ) (bytes : List ℕ) : Type 0 where
  pub places : AreBelow count (places_in count bytes)
  pub spelled : bytes ≡ set_bytes count (places_in count bytes)

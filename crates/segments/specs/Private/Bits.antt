-- Places as bits: the place 8 k + j is bit j of byte k.
use Rattle.std.specs.Prelude.{ℕ, zero, suc, ◌+◌, ◌*◌, ◌/◌, ◌%◌, ◌<◌, ◌≤◌, ◌==◌, Bool, if◌then◌else◌, List, length, map, filter, slice_index}
use Rattle.segments.specs.Contents.{has}
use Rattle.segments.specs.Private.Below.{numbers_below}

-- whether a number has this bit
unfoldable pub has_bit : ℕ → ℕ → Bool
has_bit n zero = n % 2 == 1
has_bit n (suc j) = has_bit (n / 2) j

-- the number with these bits, so many from the lowest on
unfoldable pub with_bits : ℕ → (ℕ → Bool) → ℕ
with_bits zero bit = 0
with_bits (suc count) bit = (if bit 0 then 1 else 0) + 2 * with_bits count (λ j. bit (suc j))

-- so many bytes have a bit for each place
abbrev pub width : ℕ → ℕ
width count = (count + 7) / 8

-- the byte with this number
abbrev pub byte_with : List ℕ → ℕ → ℕ
byte_with places number = with_bits 8 (λ j. has places (8 * number + j))

-- the bits of all places below `count`
unfoldable pub bit_bytes : ℕ → List ℕ → List ℕ
bit_bytes count places = map (byte_with places) (numbers_below (width count))

-- whether the place's bit is set
abbrev pub is_marked : List ℕ → ℕ → Bool
is_marked bytes place = has_bit (slice_index bytes (place / 8)) (place % 8)

-- the places below `count` whose bits are set
abbrev pub marked_below : ℕ → List ℕ → List ℕ
marked_below count bytes = filter (is_marked bytes) (numbers_below count)

-- The places before `at` are below `place`, and the others are not.
pub record IsSplit (places : List ℕ) (at place : ℕ) : Type 0 where
  pub within : at ≤ length places
  pub below : (k : ℕ) → k < at → slice_index places k < place
  pub from : (k : ℕ) → at ≤ k → k < length places → place ≤ slice_index places k

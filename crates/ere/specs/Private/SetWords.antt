-- Sets of line bytes as four words of 64 bits: byte b is bit b mod 64 of word b / 64.
use Rattle.std.specs.Prelude.{◌≡◌, ℕ, ◌*◌, ◌/◌, ◌%◌, ◌^◌, ◌<◌, Bool, false, ◌&&◌, List, map, length, slice_index, slice_index_or}
use Rattle.std.specs.List.{range_with_len}
use Rattle.std.specs.Simd.Lanes.{mask_l}
use Rattle.ere.specs.Bits.{has_bit}
use Rattle.ere.specs.ByteSet.{is_line_byte}

-- whether the words have a byte
unfoldable pub has_byte : List ℕ → ℕ → Bool
has_byte words b = has_bit (slice_index words (b / 64)) (b % 64)

-- the truth values of four words
unfoldable pub values_of : List ℕ → List Bool
values_of words = map (has_byte words) (range_with_len 0 256)

-- the word whose bits are the 64 truth values from `first` on
abbrev pub word_of : List Bool → ℕ → ℕ
word_of values first = mask_l (map (λ b. slice_index_or values b false) (range_with_len first 64))

-- the four words whose bits are the truth values
unfoldable pub words_of : List Bool → List ℕ
words_of values = map (λ i. word_of values (i * 64)) (range_with_len 0 4)

-- four words that have only line bytes
pub record AreLineBytes (words : List ℕ) : Type 0 where
  pub whole : length words ≡ 4
  pub small : (i : ℕ) → slice_index words i < 2 ^ 64
  pub line_bytes : (b : ℕ) → b < 256 → has_byte words b ≡ (is_line_byte b && has_byte words b)

-- Sets of positions of a line, as words of 64 bits.
use Rattle.std.specs.Prelude.{ℕ, ◌/◌, ◌%◌, Bool, List, slice_index}
use Rattle.ere.specs.Bits.{has_bit}

-- position k is bit k mod 64 of word k / 64
unfoldable pub has_position : List ℕ → ℕ → Bool
has_position words k = has_bit (slice_index words (k / 64)) (k % 64)

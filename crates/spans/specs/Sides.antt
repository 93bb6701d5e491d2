-- Whether a letter, digit or `_` is beside a position of a line.
use Rattle.std.specs.Prelude.{ℕ, zero, suc, Bool, false, ◌&&◌, List, length, nat_lt, slice_index}
use Rattle.ere.specs.Classes.{is_word_byte}

-- whether a word byte is right before the position
abbrev pub is_word_before : List ℕ → ℕ → Bool
is_word_before line zero = false
is_word_before line (suc k) = is_word_byte (slice_index line k)

-- whether a word byte is right after the position
abbrev pub is_word_after : List ℕ → ℕ → Bool
is_word_after line at = nat_lt at (length line) && is_word_byte (slice_index line at)

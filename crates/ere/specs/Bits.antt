-- Single bits of words.
use Rattle.std.specs.Prelude.{ℕ, Bool, ◌==◌}
use Rattle.std.specs.Int.{bit_at}

-- whether a word has a bit
abbrev pub has_bit : ℕ → ℕ → Bool
has_bit word bit = bit_at word bit == 1

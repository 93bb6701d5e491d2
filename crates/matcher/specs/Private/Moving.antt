-- Where bytes of a set lead.
use Rattle.std.specs.Prelude.{◌≡◌, ◌+◌, ◌<◌, ℕ, zero, suc, Bool, false, ◌&&◌, ◌||◌, List, length, nat_le, nat_lt, slice_index}
use Rattle.ere.specs.ByteSet.{has}
use Rattle.ere.specs.Bits.{has_bit}
use Rattle.spans.specs.PositionSets.{has_position}

-- whether a byte of the set follows the position
abbrev pub passes : List Bool → List ℕ → ℕ → Bool
passes members line at = nat_lt at (length line) && has members (slice_index line at)

-- whether one byte of the set leads to the position from a position of the words
abbrev pub arrives : List Bool → List ℕ → List ℕ → ℕ → Bool
arrives members line words zero = false
arrives members line words (suc k) = has_position words k && passes members line k

-- whether a held position leads to the position by one step or more, each from a position that passes
abbrev pub comes : (ℕ → Bool) → (ℕ → Bool) → ℕ → Bool
comes held pass zero = false
comes held pass (suc k) = (held k || comes held pass k) && pass k

-- the same by any number of steps
abbrev pub flood : (ℕ → Bool) → (ℕ → Bool) → ℕ → Bool
flood held pass k = held k || comes held pass k

-- The lowest `count` bits of a word say which positions from `at` on pass.
pub record IsPassing (members : List Bool) (line : List ℕ) (word at count : ℕ) : Type 0 where
  pub each : (bit : ℕ) → bit < count → has_bit word bit ≡ passes members line (at + bit)

-- The bits of a word from bit `from` on say which positions pass, counted from `base`. Its lower bits are 0.
pub record IsPassingFrom (members : List Bool) (line : List ℕ) (word base from : ℕ) : Type 0 where
  pub each : (bit : ℕ) → bit < 64 → has_bit word bit ≡ (nat_le from bit && passes members line (base + bit))

-- Loops over words of cells.
use Rattle.std.specs.Prelude.{◌≡◌, ℕ, ◌+◌, ◌-◌, ◌*◌, ◌%◌, ◌<◌, ◌≤◌, ◌&&◌, Bool, if◌then◌else◌, nat_lt, nat_le, IsTrue, List}
use Rattle.ere.specs.Bits.{has_bit}
use Rattle.simulation.specs.Pending.{at}

-- The cells of the first words have these values.
abbrev pub AreWritten : List ℕ → ℕ → (ℕ → Bool) → Type 0
AreWritten cells words value = (k : ℕ) → k < 64 * words → at cells k ≡ value k

-- The cells of the first words have these values, and the rest is as before.
pub record AreChanged (before after : List ℕ) (words : ℕ) (value : ℕ → Bool) : Type 0 where
  pub each : AreWritten after words value
  pub rest : (k : ℕ) → 64 * words ≤ k → at after k ≡ at before k

-- The cells moved up, with what is entered before them.
abbrev pub shifted : ℕ → List ℕ → List ℕ → ℕ → Bool
shifted stride entered read k = if nat_lt k stride then at entered k else at read (k - stride)

-- what is entered, in every turn but the first
abbrev pub repeated : ℕ → List ℕ → ℕ → Bool
repeated stride entered k = nat_le stride k && at entered (k % stride)

-- A cell from one on and before another is set.
abbrev pub IsWithin : ℕ → ℕ → List ℕ → ℕ → Type 0
IsWithin from to cells k = (from ≤ k) × (k < to) × IsTrue (at cells k)

-- One of the cells is set that have this place in their words.
abbrev pub AnyWithin : ℕ → ℕ → List ℕ → ℕ → Type 0
AnyWithin from to cells b = (i : ℕ) × IsWithin from to cells (i * 64 + b)

-- One of the bits of a word is set that have this place in their parts, which are so many bits long.
abbrev pub AnyPart : ℕ → ℕ → ℕ → Type 0
AnyPart word width k = (b : ℕ) × (b < 64) × (b % width ≡ k) × IsTrue (has_bit word b)

-- How the numbers of a set are stored: rising, each as its distance from the one before it, the first from 0.
-- A distance is in groups of seven bits, the lowest first, and has the high bit on every byte but its last.
use Rattle.std.specs.Prelude.{ℕ, zero, suc, ◌+◌, ◌-◌, ◌/◌, ◌%◌, if◌then◌else◌, nat_lt, List, [], ◌∷◌, ◌++◌}

-- a number in groups: at most so many after the first one, and no more than needed
unfoldable pub groups : ℕ → ℕ → List ℕ
groups zero n = n ∷ []
groups (suc more) n = if nat_lt n 128 then n ∷ [] else (n % 128 + 128) ∷ groups more (n / 128)

-- the bytes of a number: 32 bits take five groups at most
abbrev pub bytes_of : ℕ → List ℕ
bytes_of n = groups 4 n

-- the bytes of numbers that follow one
unfoldable pub bytes_after : ℕ → List ℕ → List ℕ
bytes_after before [] = []
bytes_after before (n ∷ numbers) = bytes_of (n - before) ++ bytes_after n numbers

abbrev pub stored_bytes : List ℕ → List ℕ
stored_bytes numbers = bytes_after 0 numbers

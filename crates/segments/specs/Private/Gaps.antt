-- Rising numbers as gaps: each number's distance from the one before it, the first one's from 0. A distance is in groups of seven
-- bits, the lowest first, and each byte but its last one has the high bit.
use Rattle.std.specs.Prelude.{◌≡◌, ℕ, zero, suc, ◌+◌, ◌-◌, ◌*◌, ◌/◌, ◌%◌, ◌<◌, ◌≤◌, if◌then◌else◌, nat_lt, List, [], ◌∷◌, ◌++◌, All, length}
use Rattle.std.specs.List.Sorted.{IsStrictlyIncreasing}

-- a number in groups: at most so many after the first one, and no more than needed
unfoldable pub groups : ℕ → ℕ → List ℕ
groups zero n = n ∷ []
groups (suc more) n = if nat_lt n 128 then n ∷ [] else (n % 128 + 128) ∷ groups more (n / 128)

-- the bytes of a number: 32 bits take five groups at most
abbrev pub bytes_of : ℕ → List ℕ
bytes_of n = groups 4 n

-- the bytes of numbers that follow one
unfoldable pub bytes_after : ℕ → List ℕ → List ℕ
bytes_after before [] = []
bytes_after before (n ∷ numbers) = bytes_of (n - before) ++ bytes_after n numbers

abbrev pub gap_bytes : List ℕ → List ℕ
gap_bytes numbers = bytes_after 0 numbers

-- the numbers in these bytes; the function turns the first distance into the first number
unfoldable pub numbers_in : (ℕ → ℕ) → List ℕ → List ℕ
numbers_in number [] = []
numbers_in number (b ∷ bytes) =
    if nat_lt b 128 then number b ∷ numbers_in (λ gap. number b + gap) bytes
    else numbers_in (λ high. number (b - 128 + 128 * high)) bytes

-- the numbers of bytes that follow a number
abbrev pub numbers_after : ℕ → List ℕ → List ℕ
numbers_after before bytes = numbers_in (λ gap. before + gap) bytes

-- the last of the numbers that follow `before`, or `before` if there are none
unfoldable pub last_of : ℕ → List ℕ → ℕ
last_of before [] = before
last_of before (n ∷ numbers) = last_of n numbers

-- a number in groups of seven bits is below this, if this many groups follow the first one
unfoldable pub limit : ℕ → ℕ
limit zero = 128
limit (suc more) = 128 * limit more

-- The bytes are those of some rising numbers that follow `before`.
pub record IsSpelled (before : ℕ) (bytes : List ℕ) : Type 0 where
  pub spelled : bytes ≡ bytes_after before (numbers_after before bytes)
  pub rising : IsStrictlyIncreasing (numbers_after before bytes)
  pub from : All (λ n. before ≤ n) (numbers_after before bytes)
  pub bound : All (λ n. n < 4294967296) (numbers_after before bytes)

-- the first number, and the bytes after it
pub record IsFirstNumber (before : ℕ) (bytes : List ℕ) (number : ℕ) (rest : List ℕ) : Type 0 where
  pub numbers : numbers_after before bytes ≡ number ∷ numbers_after number rest
  pub spelled : IsSpelled number rest
  pub order : before ≤ number
  pub shorter : length rest < length bytes

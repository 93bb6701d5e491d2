-- Stored numbers, read back.
use Rattle.std.specs.Prelude.{◌≡◌, ℕ, zero, suc, ◌+◌, ◌-◌, ◌*◌, ◌^◌, ◌<◌, ◌≤◌, if◌then◌else◌, nat_lt, nat_le, List, [], ◌∷◌, ◌++◌, All}
use Rattle.std.specs.Prelude.{filter, length, true, ◌||◌, take, drop, sum, slice_index}
use Rattle.std.specs.List.Sorted.{IsStrictlyIncreasing}
use Rattle.posting.specs.ListValue.{has, without}
use Rattle.posting.specs.Stored.{bytes_of, bytes_after}
use Rattle.posting.specs.declared.list.Taken.{Taken}

-- the numbers in these bytes; the function turns the first distance into the first number
unfoldable pub numbers_in : (ℕ → ℕ) → List ℕ → List ℕ
numbers_in number [] = []
numbers_in number (b ∷ bytes) =
    if nat_lt b 128 then number b ∷ numbers_in (λ gap. number b + gap) bytes
    else numbers_in (λ high. number (b - 128 + 128 * high)) bytes

-- the numbers of bytes that follow a number
abbrev pub numbers_after : ℕ → List ℕ → List ℕ
numbers_after before bytes = numbers_in (λ gap. before + gap) bytes

-- the last of the numbers that follow `before`, or `before` if there are none
unfoldable pub last_of : ℕ → List ℕ → ℕ
last_of before [] = before
last_of before (n ∷ numbers) = last_of n numbers

-- The bytes are those of some rising numbers that follow `before`.
pub record IsSpelled (before : ℕ) (bytes : List ℕ) : Type 0 where
  pub spelled : bytes ≡ bytes_after before (numbers_after before bytes)
  pub rising : IsStrictlyIncreasing (numbers_after before bytes)
  pub from : All (λ n. before ≤ n) (numbers_after before bytes)
  pub bound : All (λ n. n < 2 ^ 32) (numbers_after before bytes)

-- what a list keeps: bytes, and the last number
pub record IsStored (bytes : List ℕ) (last : ℕ) : Type 0 where
  pub spelled : IsSpelled 0 bytes
  pub ends : last ≡ last_of 0 (numbers_after 0 bytes)

-- the first number, and the bytes after it
pub record IsFirstNumber (before : ℕ) (bytes : List ℕ) (number : ℕ) (rest : List ℕ) : Type 0 where
  pub numbers : numbers_after before bytes ≡ number ∷ numbers_after number rest
  pub spelled : IsSpelled number rest
  pub stored : bytes ≡ bytes_of (number - before) ++ rest
  pub order : before ≤ number
  pub shorter : length rest < length bytes

-- a number in groups of seven bits is below this, if this many groups follow the first one
unfoldable pub limit : ℕ → ℕ
limit zero = 128
limit (suc more) = 128 * limit more

-- Some numbers, each below `number`, were passed: `at` is the last of them, or `before`, and `rest` has the bytes after them.
pub record IsPassed (before : ℕ) (bytes : List ℕ) (number at : ℕ) (rest : List ℕ) : Type 0 where
  pub passed : List ℕ
  pub numbers : numbers_after before bytes ≡ passed ++ numbers_after at rest
  pub stored : bytes ≡ bytes_after before passed ++ rest
  pub ends : at ≡ last_of before passed
  pub below : All (λ n. n < number) passed
  pub spelled : IsSpelled at rest

-- Each of the first 32 bytes ends a number, and this is their sum.
pub record IsBlock (bytes : List ℕ) (total : ℕ) : Type 0 where
  pub long : 32 ≤ length bytes
  pub low : All (λ b. b < 128) (take 32 bytes)
  pub total_is : total ≡ sum (take 32 bytes)

abbrev pub not_below : ℕ → List ℕ → List ℕ
not_below number numbers = filter (λ n. nat_le number n) numbers

-- It is one of the numbers, and none is below it.
pub record IsLeast (number : ℕ) (numbers : List ℕ) : Type 0 where
  pub there : has numbers number ≡ true
  pub least : All (λ n. number ≤ n) numbers

-- The least number of two lists was taken out of both.
pub record IsLower (left right : List ℕ) (next : Taken) (left' right' : List ℕ) : Type 0 where
  pub there : (has left next.number || has right next.number) ≡ true
  pub in_left : next.in_left ≡ has left next.number
  pub in_right : next.in_right ≡ has right next.number
  pub least_left : All (λ n. next.number ≤ n) left
  pub least_right : All (λ n. next.number ≤ n) right
  pub left_is : left' ≡ without next.number left
  pub right_is : right' ≡ without next.number right
  pub rising_left : IsStrictlyIncreasing left
  pub rising_right : IsStrictlyIncreasing right

-- The last number of bytes begins here: no byte from here on but the last one ends a number, and the one before does.
pub record IsLastPlace (bytes : List ℕ) (place : ℕ) : Type 0 where
  pub inside : place < length bytes
  pub high : (k : ℕ) → place ≤ k → k + 1 < length bytes → 128 ≤ slice_index bytes k
  pub low : 0 < place → slice_index bytes (place - 1) < 128

-- Some numbers at the end, none below `number`, were left out: `front` has the bytes before them, and `last` is its last number, or 0.
pub record IsCut (bytes : List ℕ) (number : ℕ) (front : List ℕ) (last : ℕ) : Type 0 where
  pub left : List ℕ
  pub numbers : numbers_after 0 bytes ≡ numbers_after 0 front ++ left
  pub stored : bytes ≡ front ++ bytes_after last left
  pub ends : last ≡ last_of 0 (numbers_after 0 front)
  pub above : All (λ n. number ≤ n) left
  pub spelled : IsSpelled 0 front

-- Both have this many bytes, and they are the same.
pub record AreSameBytes (left right : List ℕ) (count : ℕ) : Type 0 where
  pub in_left : count ≤ length left
  pub in_right : count ≤ length right
  pub same : (k : ℕ) → k < count → slice_index left k ≡ slice_index right k

-- The byte before this place ends a number, or the place is 0.
abbrev pub IsSeam : List ℕ → ℕ → Type 0
IsSeam bytes place = 0 < place → slice_index bytes (place - 1) < 128

-- Both begin with the same numbers, which take this many bytes, and `at` is the last of them, or `before`.
pub record IsSameStart (before : ℕ) (left right : List ℕ) (place at : ℕ) : Type 0 where
  pub same : List ℕ
  pub in_left : place ≤ length left
  pub in_right : place ≤ length right
  pub numbers_left : numbers_after before left ≡ same ++ numbers_after at (drop place left)
  pub numbers_right : numbers_after before right ≡ same ++ numbers_after at (drop place right)
  pub spelled_left : IsSpelled at (drop place left)
  pub spelled_right : IsSpelled at (drop place right)

-- Some numbers were taken out that both lists began with.
pub record AreLeftOut (left right left' right' : List ℕ) : Type 0 where
  pub same : List ℕ
  pub left_is : left ≡ same ++ left'
  pub right_is : right ≡ same ++ right'

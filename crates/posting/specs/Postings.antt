-- One set of numbers for each trigram (the posting lists of Russ Cox's "Regular Expression Matching with a
-- Trigram Index", 2012), as a table by the trigrams' numbers.
use Rattle.std.specs.Prelude.{◌≡◌, ◌≢◌, ℕ, ◌<◌, ◌≤◌, Bool, true, false, not, ◌&&◌, ◌||◌, ◌==◌, nat_lt, IsTrue, List, [], All, AllPairs, filter, slice_index_or, Option, Some, None}
use Rattle.std.specs.List.{list_any}
use Rattle.query.specs.Trigrams.{TrigramSet}
use Rattle.query.specs.Query.{Formula, is_met}
use Rattle.posting.specs.declared.filling.Entry.{Entry}
use Rattle.posting.specs.ListValue.{has}

-- a set of numbers: its numbers, rising, and a limit: each number below it can be added without memory
pub record NumberSet : Type 0 where
  pub members : List ℕ
  pub limit : ℕ

-- a set with no number, to which none can be added without memory
abbrev pub no_numbers : NumberSet
no_numbers = record { members = []; limit = 0 }

-- A set of one number below this needs no memory but its slot.
abbrev pub slot_limit : ℕ
slot_limit = 2147483648

-- the set of the trigram
abbrev pub set_of : List NumberSet → ℕ → NumberSet
set_of table trigram = slice_index_or table trigram no_numbers

-- whether the set of the trigram has the number
abbrev pub holds : List NumberSet → ℕ → ℕ → Bool
holds table trigram number = has (set_of table trigram).members number

-- the trigrams whose sets have the number
abbrev pub trigrams_with : List NumberSet → ℕ → TrigramSet
trigrams_with table number = λ trigram. holds table trigram number

-- The number can be added to the set of each of these trigrams without memory.
abbrev pub IsPrepared : List NumberSet → ℕ → List ℕ → Type 0
IsPrepared table number trigrams = All (λ trigram. number < (set_of table trigram).limit) trigrams

-- None of the sets of these trigrams has the number.
abbrev pub IsAbsent : List NumberSet → List ℕ → ℕ → Type 0
IsAbsent table trigrams number = (trigram : ℕ) → IsTrue (has trigrams trigram) → holds table trigram number ≡ false

-- no two are the same
abbrev pub AllDiffer : List ℕ → Type 0
AllDiffer = AllPairs (λ s t. s ≢ t)

-- The sets have the numbers that they had.
abbrev pub SameSets : List NumberSet → List NumberSet → Type 0
SameSets old new = (trigram n : ℕ) → holds new trigram n ≡ holds old trigram n

-- Each number that could be added without memory still can.
abbrev pub KeepsRoom : List NumberSet → List NumberSet → Type 0
KeepsRoom old new = (trigram : ℕ) → (set_of old trigram).limit ≤ (set_of new trigram).limit

-- The number was added to the sets of these trigrams, and nothing else changed.
abbrev pub AddsNumber : List NumberSet → List NumberSet → List ℕ → ℕ → Type 0
AddsNumber old new trigrams number = (trigram n : ℕ) → holds new trigram n ≡ (holds old trigram n || (has trigrams trigram && number == n))

-- whether one of these entries has the number and the trigram
abbrev pub is_listed : List Entry → ℕ → ℕ → Bool
is_listed entries trigram number = list_any (λ e. has e.trigrams.now trigram && e.number == number) entries

-- whether the trigram comes before this one; `None` is after all
abbrev pub is_before : Option ℕ → ℕ → Bool
is_before None trigram = true
is_before (Some next) trigram = nat_lt trigram next

-- The number was taken out of the sets of these trigrams, and nothing else changed.
abbrev pub WithdrawsNumber : List NumberSet → List NumberSet → List ℕ → ℕ → Type 0
WithdrawsNumber old new trigrams number = (trigram n : ℕ) → holds new trigram n ≡ (holds old trigram n && not (has trigrams trigram && n == number))

-- The number was taken out of some of the sets of the old trigrams that the new ones have not, and put into some of those of the new
-- trigrams that the old ones have not.
pub record MovesNumber (before after : List NumberSet) (number : ℕ) (old new : List ℕ) : Type 0 where
  pub kept : (trigram n : ℕ) → holds before trigram n ≡ true → (holds after trigram n || ((has old trigram && not (has new trigram)) && number == n)) ≡ true
  pub grown : (trigram n : ℕ) → holds after trigram n ≡ true → (holds before trigram n || ((has new trigram && not (has old trigram)) && number == n)) ≡ true

-- That is done for the trigrams from `from` on and before the next one.
pub record IsMovedUntil (table : List NumberSet) (number : ℕ) (old new : List ℕ) (from : ℕ) (next : Option ℕ) : Type 0 where
  pub put : (trigram : ℕ) → from ≤ trigram → is_before next trigram ≡ true → has new trigram ≡ true → has old trigram ≡ false
      → holds table trigram number ≡ true
  pub gone : (trigram : ℕ) → from ≤ trigram → is_before next trigram ≡ true → has new trigram ≡ false → has old trigram ≡ true
      → holds table trigram number ≡ false

-- If the set of one of these trigrams has no number, it has no memory but its slot.
abbrev pub GivesBack : List NumberSet → List ℕ → Type 0
GivesBack table trigrams =
    (trigram : ℕ) → IsTrue (has trigrams trigram) → (set_of table trigram).members ≡ [] → (set_of table trigram).limit ≤ slot_limit

-- the numbers of a list whose trigrams meet the formula
abbrev pub selected : List NumberSet → Formula → List ℕ → List ℕ
selected table formula numbers = filter (λ n. is_met formula (trigrams_with table n)) numbers

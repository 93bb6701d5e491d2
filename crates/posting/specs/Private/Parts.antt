-- The parts of the trigrams, each with a table of its own.
use Rattle.std.specs.Prelude.{Bool, true, ◌≡◌, ◌⊎◌, ℕ, ◌+◌, ◌*◌, ◌<◌, ◌≤◌, ◌-◌, ◌/◌, ◌%◌, ◌||◌, ◌&&◌, ◌==◌, List, [], map, slice_index_or, length}
use Rattle.std.specs.List.{range_with_len, list_any}
use Rattle.posting.specs.ListValue.{has}
use Rattle.posting.specs.Postings.{NumberSet, set_of}
use Rattle.posting.specs.declared.filling.Left.{Left}
use Rattle.posting.specs.Private.Pages.{trigram_count}

-- the part of a trigram
abbrev pub part_of : ℕ → ℕ
part_of trigram = trigram / 65536 % 8

-- the trigram that stands for it in its part
abbrev pub place_in_part : ℕ → ℕ
place_in_part trigram = trigram / 524288 * 65536 + trigram % 65536

-- the set of a trigram among parts, of which the first one has this number
unfoldable pub set_among : ℕ → List (List NumberSet) → ℕ → NumberSet
set_among first parts trigram = set_of (slice_index_or parts (part_of trigram - first) []) (place_in_part trigram)

-- the table that all parts make
abbrev pub whole_of : List (List NumberSet) → List NumberSet
whole_of parts = map (set_among 0 parts) (range_with_len 0 trigram_count)

-- whether the set of the trigram has the number
abbrev pub holds_among : ℕ → List (List NumberSet) → ℕ → ℕ → Bool
holds_among first parts trigram number = has (set_among first parts trigram).members number

-- The trigram is in one of so many parts, of which the first one has this number.
pub record IsAmong (first count : ℕ) (trigram : ℕ) : Type 0 where
  pub number : trigram < trigram_count
  pub from : first ≤ part_of trigram
  pub before : part_of trigram < first + count

-- Each set that is among these parts keeps its numbers, and gets at most those that `more` has.
pub record Grows (first : ℕ) (old new : List (List NumberSet)) (more : ℕ → ℕ → Bool) : Type 0 where
  pub count : length new ≡ length old
  pub kept : (t n : ℕ) → IsAmong first (length old) t → holds_among first old t n ≡ true → holds_among first new t n ≡ true
  pub few : (t n : ℕ) → IsAmong first (length old) t → holds_among first new t n ≡ true → (holds_among first old t n || more t n) ≡ true

-- Each set that is among these parts has all that `more` has, which is for trigrams alone.
pub record Fills (first : ℕ) (parts : List (List NumberSet)) (more : ℕ → ℕ → Bool) : Type 0 where
  pub bound : (t n : ℕ) → more t n ≡ true → t < trigram_count
  pub all : (t n : ℕ) → IsAmong first (length parts) t → more t n ≡ true → holds_among first parts t n ≡ true

-- whether one of these has the number, and the trigram is left of it
abbrev pub is_left : List Left → ℕ → ℕ → Bool
is_left lefts trigram number = list_any (λ l. has l.trigrams trigram && l.number == number) lefts

-- Of what was left before, the sets that are among these parts have got all but what is left after.
pub record Moves (first : ℕ) (old new : List (List NumberSet)) (before after : ℕ → ℕ → Bool) : Type 0 where
  pub grown : Grows first old new before
  pub got : (t n : ℕ) → IsAmong first (length new) t → before t n ≡ true → (holds_among first new t n || after t n) ≡ true
  pub fewer : (t n : ℕ) → after t n ≡ true → before t n ≡ true
  pub bound : (t n : ℕ) → before t n ≡ true → (t < trigram_count) ⊎ (after t n ≡ true)

-- Which words have the positions of a set.
use Rattle.std.specs.Prelude.{◌≡◌, ℕ, ◌*◌, ◌≤◌, ◌<◌, nat_le, if◌then◌else◌, List, length, slice_index}
use Rattle.matcher.specs.declared.words.TheConstants.{WORDS}

-- how many positions this many words have room for, or 0 if there are more words than a line ever needs
abbrev pub room_of : ℕ → ℕ
room_of size = if nat_le size WORDS then 64 * size else 0

-- All words are there, and those before `first` and from `end` on are empty.
pub record IsBounded (size : ℕ) (words : List ℕ) (first end : ℕ) : Type 0 where
  pub whole : length words ≡ size
  pub few : size ≤ WORDS
  pub ordered : first ≤ end
  pub inside : end ≤ size
  pub low : (i : ℕ) → i < first → slice_index words i ≡ 0
  pub high : (i : ℕ) → end ≤ i → slice_index words i ≡ 0

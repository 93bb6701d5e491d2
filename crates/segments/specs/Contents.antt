-- The contents of a segment, each with its number and its trigrams.
use Rattle.std.specs.Prelude.{◌≢◌, ℕ, Bool, ◌==◌, List, length, map, filter, All, AllPairs, Option}
use Rattle.std.specs.List.{list_any, flat_map, filter_map, find, sum_by}
use Rattle.std.specs.Borrow.{Bor}
use Rattle.std.specs.List.Sorted.{IsStrictlyIncreasing}
use Rattle.query.specs.Query.{Formula, is_met}

-- a number, and the trigrams of the body that has it, rising
pub record Content : Type 0 where
  pub number : ℕ
  pub trigrams : List ℕ

-- whether the number is one of these
abbrev pub has : List ℕ → ℕ → Bool
has numbers n = list_any (λ m. m == n) numbers

abbrev pub numbers_of : List Content → List ℕ
numbers_of contents = map (λ c. c.number) contents

-- whether the trigrams of the content meet the formula
abbrev pub meets : Formula → Content → Bool
meets formula content = is_met formula (has content.trigrams)

-- the numbers of the contents that meet the formula
abbrev pub selected : Formula → List Content → List ℕ
selected formula contents = numbers_of (filter (meets formula) contents)

-- how many pairs of a content and a trigram that it has there are
abbrev pub pairs_in : List Content → ℕ
pairs_in contents = sum_by (λ c. length c.trigrams) contents

-- The numbers rise from content to content, and within each content so do the trigrams.
pub record AreInOrder (contents : List Content) : Type 0 where
  pub numbers : IsStrictlyIncreasing (numbers_of contents)
  pub trigrams : All (λ c. IsStrictlyIncreasing c.trigrams) contents

-- the contents of several segments, one after the other
abbrev pub contents_in : List (Bor (List Content)) → List Content
contents_in segments = flat_map (λ s. s.now) segments

-- the content with this number, if there is one
abbrev pub content_numbered : List Content → ℕ → Option Content
content_numbered contents n = find (λ c. c.number == n) contents

-- for each of these numbers the content that has it, without those that no content has
abbrev pub kept : List ℕ → List Content → List Content
kept numbers contents = filter_map (content_numbered contents) numbers

-- No two contents have the same number.
abbrev pub AllDiffer : List Content → Type 0
AllDiffer contents = AllPairs (λ m n. m ≢ n) (numbers_of contents)

-- What is found for a query, before it is intersected with the numbers that are asked for.
use Rattle.std.specs.Prelude.{◌≡◌, ℕ, IsTrue, List}
use Rattle.query.specs.Query.{Formula, is_met}
use Rattle.posting.specs.ListValue.{has}
use Rattle.posting.specs.Postings.{NumberSet, trigrams_with}

-- Of the numbers that are asked for, exactly those that meet the formula were found. Numbers that are not asked for may be there too.
abbrev pub Finds : List NumberSet → Formula → List ℕ → List ℕ → Type 0
Finds table formula asked found = (n : ℕ) → IsTrue (has asked n) → has found n ≡ is_met formula (trigrams_with table n)

-- Segments of which some become one.
use Rattle.std.specs.Prelude.{◌≡◌, ℕ, List, Contains, Some, map}
use Rattle.std.specs.List.Sorted.{IsStrictlyIncreasing}
use Rattle.std.specs.FinMap.{get}
use Rattle.names.specs.declared.content.Content.{Content}
use Rattle.names.specs.Contents.{Contents}
use Rattle.segments.specs.Contents.{Content as Trigrams, has, AllDiffer}

-- They rise, and are the numbers of these contents.
pub record AreNumbersOf (contents : List Content) (numbers : List ℕ) : Type 0 where
  pub rising : IsStrictlyIncreasing numbers
  pub same : (n : ℕ) → has numbers n ≡ has (map (λ c. c.number) contents) n

-- What is said of a content that some name has stays, and nothing else is said.
pub record KeepsNamed (contents : Contents) (before after : List Trigrams) : Type 0 where
  pub named : (name : List ℕ) (content : Content) (t : Trigrams) → get contents name ≡ Some content → Contains before t → t.number ≡ content.number → Contains after t
  pub others : (t : Trigrams) → Contains after t → Contains before t
  pub differ : AllDiffer after

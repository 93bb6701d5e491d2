-- Trigrams that are known, and become keys in their order.
use Rattle.std.specs.Prelude.{◌≡◌, ℕ, ◌<◌, List, ◌++◌, All}
use Rattle.segments.specs.Private.Keyed.{keys_at}

-- The keys of the trigrams with this place were added, in this order.
pub record AddsKnown (trigrams : List ℕ) (place : ℕ) (old new : List ℕ) : Type 0 where
  pub is : new ≡ old ++ keys_at place trigrams
  pub small : All (λ t. t < 16777216) trigrams

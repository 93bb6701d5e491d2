-- A text cut in two at a byte.
use Rattle.std.specs.Prelude.{◌≡◌, ◌≢◌, ℕ, List, ◌∷◌, ◌++◌, Option}
use Rattle.std.specs.List.{AllByRecursion}
use Rattle.script.specs.Fields.{Fields}

abbrev pub Lacks : ℕ → List ℕ → Type 0
Lacks byte text = AllByRecursion (λ b. b ≢ byte) text

-- what is before the first such byte, and after it
pub record Cuts (byte : ℕ) (text front back : List ℕ) : Type 0 where
  pub whole : text ≡ front ++ byte ∷ back
  pub first : Lacks byte front

-- what is before the last such byte, and after it
pub record CutsLast (byte : ℕ) (text front back : List ℕ) : Type 0 where
  pub whole : text ≡ front ++ byte ∷ back
  pub last : Lacks byte back

abbrev pub shown_fields : List ℕ → Option (List ℕ) → Fields
shown_fields first others = record { first = first; others = others }

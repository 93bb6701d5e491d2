-- What follows the keyword of a put.
use Rattle.std.specs.Prelude.{ℕ, List, Option, Some, None}
use Rattle.script.specs.Fields.{IsPutHeader}

-- `HasHeader`: there is a space after `put`, and what follows it is a header of this name and size. `LacksHeader`: there is no header.
abbrev pub HasHeader : Option (List ℕ) → List ℕ → ℕ → Type 0
HasHeader None name size = ⊥
HasHeader (Some fields) name size = IsPutHeader fields name size

abbrev pub LacksHeader : Option (List ℕ) → Type 0
LacksHeader others = (name : List ℕ) (size : ℕ) → HasHeader others name size → ⊥

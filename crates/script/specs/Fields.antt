-- A script's line cut at its first space (this program's own language). One space separates fields.
use Rattle.std.specs.Prelude.{◌≡◌, ℕ, ◌<◌, ◌≤◌, ◌==◌, if◌then◌else◌, List, [], ◌∷◌, ◌++◌, length, Option, Some, None}
use Rattle.std.specs.List.{AllPass}
use Rattle.ere.specs.Classes.{is_digit}
use Rattle.ere.specs.Tokens.{decimal_value}

-- the first field, and what follows the space after it, if there is one
pub record Fields : Type 0 where
  pub first : List ℕ
  pub others : Option (List ℕ)

-- the fields, with one more byte at the front of the first
abbrev pub with_byte_in_front : ℕ → Fields → Fields
with_byte_in_front b fields = record { first = b ∷ fields.first; others = fields.others }

-- the fields of a line
unfoldable pub fields_of : List ℕ → Fields
fields_of [] = record { first = []; others = None }
fields_of (b ∷ line) = if b == 32 then record { first = []; others = Some line } else with_byte_in_front b (fields_of line)

-- 1 to 9 decimal digits, and the number that they spell
pub record SpellsSize (digits : List ℕ) (size : ℕ) : Type 0 where
  pub some : 0 < length digits
  pub few : length digits ≤ 9
  pub decimal : AllPass is_digit digits
  pub value : size ≡ decimal_value digits

-- What follows `put ` is a name, a space and a size; a size has no space, so this is the last
-- space of the line.
abbrev pub IsPutHeader : List ℕ → List ℕ → ℕ → Type 0
IsPutHeader fields name size = (digits : List ℕ) × (fields ≡ name ++ 32 ∷ digits) × SpellsSize digits size

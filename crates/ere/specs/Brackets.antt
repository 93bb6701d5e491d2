-- Bracket expressions (POSIX.1-2017 XBD 9.3.5), in the POSIX locale: what is between `[` and `]`,
-- and the set that it denotes. Each relation takes the text from where a part begins, and the text after that part.
use Rattle.std.specs.Prelude.{◌≡◌, ℕ, ◌≤◌, Bool, true, false, not, ◌&&◌, ◌||◌, ◌==◌, IsTrue, IsFalse, List, [], ◌∷◌, ◌++◌, Some}
use Rattle.ere.specs.ByteSet.{single, bytes_between, union, complement}
use Rattle.ere.specs.Classes.{class_named}
use Rattle.ere.specs.declared.case.Case.{Case}
use Rattle.ere.specs.Letters.{read_in}

-- whether the text begins with this byte
abbrev pub begins_with : ℕ → List ℕ → Bool
begins_with b [] = false
begins_with b (c ∷ text) = c == b

-- whether a `-` is here that isn't last, and so makes a range of what is before it
abbrev pub range_ahead : List ℕ → Bool
range_ahead (dash ∷ next ∷ text) = dash == 45 && not (next == 93)
range_ahead _ = false

-- whether a `[` before the text opens a symbol, as in `[.`, `[=` and `[:`: such a `[` doesn't stand for itself
abbrev pub opens_symbol : List ℕ → Bool
opens_symbol text = begins_with 46 text || (begins_with 61 text || begins_with 58 text)

-- The byte can stand for itself here: `]` only as the first item, `-` only as the first or the last,
-- and `[` only where it opens no symbol.
pub record StandsForItself (first : Bool) (byte : ℕ) (rest : List ℕ) : Type 0 where
  pub bracket : byte ≡ 93 → IsTrue first
  pub dash : byte ≡ 45 → IsTrue (first || begins_with 93 rest)
  pub opening : byte ≡ 91 → IsFalse (opens_symbol rest)

-- `[.x.]`, a collating symbol of one byte
abbrev pub IsCollatingSymbol : List ℕ → ℕ → List ℕ → Type 0
IsCollatingSymbol from x rest = from ≡ 91 ∷ 46 ∷ x ∷ 46 ∷ 93 ∷ rest

-- `[=x=]`, an equivalence class, which in the POSIX locale has only its one byte
abbrev pub IsEquivalenceClass : List ℕ → ℕ → List ℕ → Type 0
IsEquivalenceClass from x rest = from ≡ 91 ∷ 61 ∷ x ∷ 61 ∷ 93 ∷ rest

-- `[:name:]`, a character class
abbrev pub IsCharacterClass : List ℕ → List ℕ → List ℕ → Type 0
IsCharacterClass from name rest = from ≡ 91 ∷ 58 ∷ (name ++ 58 ∷ 93 ∷ rest)

-- The start of a range, before its `-`: a byte (`]` and `-` only as the first item), or `[.x.]`.
pub data IsRangeStart (first : Bool) (from : List ℕ) (x : ℕ) (rest : List ℕ) : Type 0 where
  byte : from ≡ x ∷ rest → (x ≡ 93 → IsTrue first) → (x ≡ 45 → IsTrue first) → IsRangeStart first from x rest
  symbol : IsCollatingSymbol from x rest → IsRangeStart first from x rest

-- The end of a range: a byte (not `]`, and `[` only where it opens no symbol), or `[.x.]`.
pub data IsRangeEnd (from : List ℕ) (x : ℕ) (rest : List ℕ) : Type 0 where
  byte : from ≡ x ∷ rest → (x ≡ 93 → ⊥) → (x ≡ 91 → IsFalse (opens_symbol rest)) → IsRangeEnd from x rest
  symbol : IsCollatingSymbol from x rest → IsRangeEnd from x rest

-- One item of a bracket expression, and its set. `first` says whether it is the first item.
pub data SpellsItem (first : Bool) (from rest : List ℕ) (set : List Bool) : Type 0 where
  byte : (x : ℕ) → from ≡ x ∷ rest → StandsForItself first x rest → IsFalse (range_ahead rest) → set ≡ single x → SpellsItem first from rest set
  symbol : (x : ℕ) → IsCollatingSymbol from x rest → IsFalse (range_ahead rest) → set ≡ single x → SpellsItem first from rest set
  equivalence : (x : ℕ) → IsEquivalenceClass from x rest → set ≡ single x → SpellsItem first from rest set
  class : (name : List ℕ) → IsCharacterClass from name rest → class_named name ≡ Some set → SpellsItem first from rest set
  range : (low high : ℕ) (after : List ℕ) → IsRangeStart first from low (45 ∷ after) → IsRangeEnd after high rest → low ≤ high
      → set ≡ bytes_between low high → SpellsItem first from rest set

-- One or more items, and the union of their sets.
pub data SpellsItems : Bool → List ℕ → List ℕ → List Bool → Type 0 where
  last : {first : Bool} {from rest : List ℕ} {set : List Bool} → SpellsItem first from rest set → SpellsItems first from rest set
  more : {first : Bool} {from middle rest : List ℕ} {set others : List Bool} → SpellsItem first from middle set
      → SpellsItems false middle rest others → SpellsItems first from rest (union set others)

-- What follows the opening `[`: `^`, or nothing if the next byte isn't `^`; then items, then `]`.
-- If case is ignored, the other case of each letter is added to the items' set before `^` takes the complement.
pub data SpellsBracket (case : Case) (from rest : List ℕ) (set : List Bool) : Type 0 where
  matching : (members : List Bool) → IsFalse (begins_with 94 from) → SpellsItems true from (93 ∷ rest) members → set ≡ read_in case members
      → SpellsBracket case from rest set
  non_matching : (items : List ℕ) (members : List Bool) → from ≡ 94 ∷ items → SpellsItems true items (93 ∷ rest) members
      → set ≡ complement (read_in case members) → SpellsBracket case from rest set

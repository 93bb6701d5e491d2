-- The tokens of an extended regular expression (POSIX.1-2017 XBD 9.4). A text can be divided into tokens in
-- at most one way.
use Rattle.std.specs.Prelude.{◌≡◌, ℕ, ◌+◌, ◌*◌, ◌-◌, ◌≤◌, ◌<◌, Bool, false, not, ◌&&◌, ◌||◌, ◌==◌, IsTrue, List, [], ◌∷◌, ◌++◌, length}
use Rattle.std.specs.Prelude.{Option, Some, None, if◌then◌else◌, fold}
use Rattle.std.specs.List.{AllPass}
use Rattle.ere.specs.ByteSet.{single, all_line_bytes}
use Rattle.ere.specs.Classes.{is_digit, is_punct}
use Rattle.ere.specs.declared.case.Case.{Case}
use Rattle.ere.specs.Letters.{read_in}
use Rattle.ere.specs.Brackets.{SpellsBracket}

pub data Token : Type 0 where
  -- a byte, `.` or a bracket expression
  set : List Bool → Token
  -- `(` and `)`
  opens : Token
  closes : Token
  -- the bar between alternatives
  bar : Token
  -- `^` and `$`
  at_start : Token
  at_end : Token
  -- a duplication, with its least and greatest count
  times : ℕ → Option ℕ → Token

-- the greatest count of an interval, RE_DUP_MAX of POSIX (255 is its least allowed value)
abbrev pub greatest_count : ℕ
greatest_count = 255

abbrev pub digit_ahead : List ℕ → Bool
digit_ahead [] = false
digit_ahead (b ∷ text) = is_digit b

-- The token of a byte that is a token by itself, where `text` comes after it. None for `[`, `\` and a `{`
-- before a digit, which begin a longer token.
unfoldable pub token_of_byte : Case → ℕ → List ℕ → Option Token
token_of_byte case b text =
    if b == 46 then Some (set all_line_bytes)
    else (if b == 40 then Some opens
    else (if b == 41 then Some closes
    else (if b == 124 then Some bar
    else (if b == 94 then Some at_start
    else (if b == 36 then Some at_end
    else (if b == 42 then Some (times 0 None)
    else (if b == 43 then Some (times 1 None)
    else (if b == 63 then Some (times 0 (Some 1))
    else (if b == 91 || (b == 92 || (b == 123 && digit_ahead text)) then None
    else Some (set (read_in case (single b))))))))))))

-- A `\` makes any ASCII punctuation but `<`, `>`, the grave accent and the apostrophe stand for itself.
abbrev pub is_escapable : ℕ → Bool
is_escapable b = is_punct b && (not (b == 60) && (not (b == 62) && (not (b == 96) && not (b == 39))))

-- the number that decimal digits spell
abbrev pub decimal_value : List ℕ → ℕ
decimal_value digits = fold (λ value digit. 10 * value + (digit - 48)) 0 digits

-- one or more decimal digits that spell a count of at most 255
pub record SpellsCount (digits : List ℕ) (count : ℕ) : Type 0 where
  pub some : 0 < length digits
  pub decimal : AllPass is_digit digits
  pub value : count ≡ decimal_value digits
  pub within : count ≤ greatest_count

-- An interval after its `{`: `m}`, `m,}` or `m,n}`.
pub data SpellsInterval (from rest : List ℕ) (least : ℕ) (greatest : Option ℕ) : Type 0 where
  exactly : (digits : List ℕ) → from ≡ digits ++ 125 ∷ rest → SpellsCount digits least → greatest ≡ Some least → SpellsInterval from rest least greatest
  at_least : (digits : List ℕ) → from ≡ digits ++ 44 ∷ 125 ∷ rest → SpellsCount digits least → greatest ≡ None → SpellsInterval from rest least greatest
  between : (low high : List ℕ) (most : ℕ) → from ≡ low ++ 44 ∷ (high ++ 125 ∷ rest) → SpellsCount low least → SpellsCount high most
      → least ≤ most → greatest ≡ Some most → SpellsInterval from rest least greatest

-- One token at the front of a text, and the text after it.
pub data SpellsToken (case : Case) (from rest : List ℕ) (token : Token) : Type 0 where
  byte : (b : ℕ) → from ≡ b ∷ rest → token_of_byte case b rest ≡ Some token → SpellsToken case from rest token
  escaped : (b : ℕ) → from ≡ 92 ∷ b ∷ rest → IsTrue (is_escapable b) → token ≡ set (read_in case (single b)) → SpellsToken case from rest token
  bracket : (items : List ℕ) (members : List Bool) → from ≡ 91 ∷ items → SpellsBracket case items rest members → token ≡ set members
      → SpellsToken case from rest token
  interval : (counts : List ℕ) (least : ℕ) (greatest : Option ℕ) → from ≡ 123 ∷ counts → IsTrue (digit_ahead counts)
      → SpellsInterval counts rest least greatest → token ≡ times least greatest → SpellsToken case from rest token

-- The text is the texts of these tokens, one after another.
pub data Tokens (case : Case) : List ℕ → List Token → Type 0 where
  none : Tokens case [] []
  more : {from rest : List ℕ} {token : Token} {tokens : List Token} → SpellsToken case from rest token → Tokens case rest tokens
      → Tokens case from (token ∷ tokens)

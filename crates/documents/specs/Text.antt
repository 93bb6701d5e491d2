-- What a name is, and what a body is (this program's choices).
use Rattle.std.specs.Prelude.{◌≡◌, ℕ, ◌<◌, ◌≤◌, Bool, true, false, not, ◌&&◌, ◌==◌, nat_le, nat_lt, min, List, length}
use Rattle.std.specs.List.{list_any}
use Rattle.lines.specs.Lines.{lines_of, greatest_line}
use Rattle.documents.specs.declared.lengths.Lengths.{Lengths}
use Rattle.documents.specs.declared.error.NameError.{NameError}
use Rattle.documents.specs.declared.error.NameError.TheVariants as name_error
use Rattle.documents.specs.declared.error.BodyErrorKind.{BodyErrorKind}
use Rattle.documents.specs.declared.error.BodyErrorKind.TheVariants as body_error

-- the greatest length of any name
abbrev pub greatest_name : ℕ
greatest_name = 4096

-- neither a space nor a control byte of ASCII
abbrev pub is_name_byte : ℕ → Bool
is_name_byte b = nat_le 33 b && not (b == 127)

-- whether some byte is one that no name has
abbrev pub has_bad_byte : List ℕ → Bool
has_bad_byte bytes = list_any (λ b. not (is_name_byte b)) bytes

pub record IsName (bytes : List ℕ) : Type 0 where
  pub some : 0 < length bytes
  pub short : length bytes ≤ greatest_name
  pub printable : has_bad_byte bytes ≡ false

-- how many bytes a name may have if so many are asked for: no more than any name
abbrev pub most_name_bytes : ℕ → ℕ
most_name_bytes most = min most greatest_name

-- The bytes are a name of at most so many bytes.
pub record IsNameOf (most : ℕ) (bytes : List ℕ) : Type 0 where
  pub some : 0 < length bytes
  pub short : length bytes ≤ most_name_bytes most
  pub printable : has_bad_byte bytes ≡ false

-- The first cause for which bytes were not made into a name of at most so many bytes. Memory runs out only if they are one.
unfoldable pub IsNameFault : ℕ → NameError → List ℕ → Type 0
IsNameFault most name_error.Empty bytes = length bytes ≡ 0
IsNameFault most name_error.TooLong bytes = most_name_bytes most < length bytes
IsNameFault most name_error.BadByte bytes =
    (0 < length bytes) × (length bytes ≤ most_name_bytes most) × (has_bad_byte bytes ≡ true)
IsNameFault most name_error.OutOfMemory bytes = IsNameOf most bytes

-- the greatest length of any body
abbrev pub greatest_body : ℕ
greatest_body = 67108864

-- the greatest lengths of names, bodies and lines if nothing else is asked for
abbrev pub usual_lengths : Lengths
usual_lengths = record { name = 255; body = 1048576; line = greatest_line }

-- how many bytes a body of these lengths may have: as many as they say, but no more than any body
abbrev pub most_bytes : Lengths → ℕ
most_bytes lengths = min lengths.body greatest_body

-- whether some byte is 0
abbrev pub has_byte_0 : List ℕ → Bool
has_byte_0 bytes = list_any (λ b. b == 0) bytes

-- some line is longer than this
abbrev pub has_line_over : ℕ → List ℕ → Bool
has_line_over most bytes = list_any (λ line. nat_lt most (length line)) (lines_of bytes)

pub record IsBody (bytes : List ℕ) : Type 0 where
  pub short : length bytes ≤ greatest_body
  pub text : has_byte_0 bytes ≡ false

-- The bytes are a body of these lengths.
pub record IsBodyOf (lengths : Lengths) (bytes : List ℕ) : Type 0 where
  pub short : length bytes ≤ most_bytes lengths
  pub text : has_byte_0 bytes ≡ false
  pub lines : has_line_over lengths.line bytes ≡ false

-- The first cause for which bytes are not a body of these lengths.
unfoldable pub IsBodyFault : Lengths → BodyErrorKind → List ℕ → Type 0
IsBodyFault lengths body_error.TooLong bytes = most_bytes lengths < length bytes
IsBodyFault lengths body_error.NotText bytes = (length bytes ≤ most_bytes lengths) × (has_byte_0 bytes ≡ true)
IsBodyFault lengths body_error.LineTooLong bytes =
    (length bytes ≤ most_bytes lengths) × (has_byte_0 bytes ≡ false) × (has_line_over lengths.line bytes ≡ true)

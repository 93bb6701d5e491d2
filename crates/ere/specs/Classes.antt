-- The character classes of the POSIX locale (POSIX.1-2017 XBD 7.3.1), among the line bytes.
-- Bytes from 128 on are in no class (this program's choice).
use Rattle.std.specs.Prelude.{ℕ, Bool, ◌||◌, ◌==◌, nat_le, ◌&&◌, List, Option, Some, None, if◌then◌else◌, codes}
use Rattle.std.specs.Str.{bytes_eq}
use Rattle.ere.specs.ByteSet.{set_of}

abbrev pub between : ℕ → ℕ → ℕ → Bool
between low high b = nat_le low b && nat_le b high

abbrev pub is_upper : ℕ → Bool
is_upper = between 65 90

abbrev pub is_lower : ℕ → Bool
is_lower = between 97 122

abbrev pub is_alpha : ℕ → Bool
is_alpha b = is_upper b || is_lower b

abbrev pub is_digit : ℕ → Bool
is_digit = between 48 57

abbrev pub is_alnum : ℕ → Bool
is_alnum b = is_alpha b || is_digit b

abbrev pub is_xdigit : ℕ → Bool
is_xdigit b = is_digit b || (between 65 70 b || between 97 102 b)

abbrev pub is_punct : ℕ → Bool
is_punct b = between 33 47 b || (between 58 64 b || (between 91 96 b || between 123 126 b))

abbrev pub is_graph : ℕ → Bool
is_graph = between 33 126

abbrev pub is_print : ℕ → Bool
is_print = between 32 126

abbrev pub is_blank : ℕ → Bool
is_blank b = b == 9 || b == 32

-- 9 to 13 includes the line feed (10), which `set_of` leaves out
abbrev pub is_space : ℕ → Bool
is_space b = between 9 13 b || b == 32

-- 0 to 31 includes 0 and 10, which `set_of` leaves out
abbrev pub is_cntrl : ℕ → Bool
is_cntrl b = nat_le b 31 || b == 127

-- a letter, a digit or `_`: the bytes of words (POSIX.1-2017 XCU vi)
abbrev pub is_word_byte : ℕ → Bool
is_word_byte b = is_alnum b || b == 95

-- the set of the class with this name, if there is one
unfoldable pub class_named : List ℕ → Option (List Bool)
class_named name =
    if bytes_eq name (codes "upper") then Some (set_of is_upper)
    else (if bytes_eq name (codes "lower") then Some (set_of is_lower)
    else (if bytes_eq name (codes "alpha") then Some (set_of is_alpha)
    else (if bytes_eq name (codes "digit") then Some (set_of is_digit)
    else (if bytes_eq name (codes "alnum") then Some (set_of is_alnum)
    else (if bytes_eq name (codes "xdigit") then Some (set_of is_xdigit)
    else (if bytes_eq name (codes "punct") then Some (set_of is_punct)
    else (if bytes_eq name (codes "graph") then Some (set_of is_graph)
    else (if bytes_eq name (codes "print") then Some (set_of is_print)
    else (if bytes_eq name (codes "blank") then Some (set_of is_blank)
    else (if bytes_eq name (codes "space") then Some (set_of is_space)
    else (if bytes_eq name (codes "cntrl") then Some (set_of is_cntrl)
    else None)))))))))))

-- Sets of line bytes, each as 256 truth values: value b says whether byte b is in the set.
-- A character is one byte (this program's choice; POSIX.1-2017 XBD 9.1 leaves the locale open).
use Rattle.std.specs.Prelude.{ℕ, Bool, false, true, not, ◌&&◌, ◌||◌, ◌==◌, nat_lt, nat_le, List, map, slice_index_or, count_by}
use Rattle.std.specs.List.{range_with_len}

-- whether b is a byte other than 0 and the line feed (10)
abbrev pub is_line_byte : ℕ → Bool
is_line_byte b = nat_lt b 256 && (not (b == 0) && not (b == 10))

-- whether byte b is in the set
abbrev pub has : List Bool → ℕ → Bool
has set b = is_line_byte b && slice_index_or set b false

-- the set of the line bytes that pass a test
unfoldable pub set_of : (ℕ → Bool) → List Bool
set_of test = map (λ b. is_line_byte b && test b) (range_with_len 0 256)

abbrev pub empty_set : List Bool
empty_set = set_of (λ _. false)

-- every line byte
abbrev pub all_line_bytes : List Bool
all_line_bytes = set_of (λ _. true)

abbrev pub single : ℕ → List Bool
single byte = set_of (λ b. b == byte)

-- the line bytes from low to high, both included
abbrev pub bytes_between : ℕ → ℕ → List Bool
bytes_between low high = set_of (λ b. nat_le low b && nat_le b high)

abbrev pub with_byte : List Bool → ℕ → List Bool
with_byte set byte = set_of (λ b. has set b || b == byte)

abbrev pub union : List Bool → List Bool → List Bool
union left right = set_of (λ b. has left b || has right b)

-- the line bytes that are not in the set
abbrev pub complement : List Bool → List Bool
complement set = set_of (λ b. not (has set b))

-- how many bytes are in the set
abbrev pub size_of : List Bool → ℕ
size_of set = count_by (λ held. held) set

-- The text that follows a `^` at the front of a tree. Each line that contains a match begins with it.
use Rattle.std.specs.Prelude.{ℕ, Bool, false, true, if◌then◌else◌, List, [], ◌∷◌, filter, Option, Some, None}
use Rattle.std.specs.List.{range_with_len}
use Rattle.ere.specs.ByteSet.{has}
use Rattle.ere.specs.Tree.{Tree, empty, set, at_start, at_end, cat, alt, repeat, Trees, none, more}

-- the only one of these numbers
abbrev pub only : List ℕ → Option ℕ
only [] = None
only (n ∷ []) = Some n
only (n ∷ (other ∷ others)) = None

-- the bytes of a set, rising
unfoldable pub bytes_in : List Bool → List ℕ
bytes_in members = filter (has members) (range_with_len 0 256)

-- the byte of a tree that is a set of one byte
abbrev pub byte_of : Tree → Option ℕ
byte_of empty = None
byte_of (set members) = only (bytes_in members)
byte_of at_start = None
byte_of at_end = None
byte_of (cat members) = None
byte_of (alt members) = None
byte_of (repeat body least greatest) = None

-- the byte and then the text, if there is a byte
abbrev pub and_then : Option ℕ → List ℕ → List ℕ
and_then None text = []
and_then (Some b) text = b ∷ text

-- the bytes of the sets of one byte each with which the members begin
unfoldable pub leading_bytes : Trees → List ℕ
leading_bytes none = []
leading_bytes (more tree trees) = and_then (byte_of tree) (leading_bytes trees)

-- the tree is `^`
abbrev pub is_start : Tree → Bool
is_start at_start = true
is_start empty = false
is_start (set members) = false
is_start at_end = false
is_start (cat members) = false
is_start (alt members) = false
is_start (repeat body least greatest) = false

-- the same of the members after the first, if that is `^`
abbrev pub bytes_after_start : Trees → List ℕ
bytes_after_start none = []
bytes_after_start (more tree trees) = if is_start tree then leading_bytes trees else []

-- `abc` of a tree like that of `^abc[de]f`; no byte of any other tree
abbrev pub anchored_text : Tree → List ℕ
anchored_text (cat members) = bytes_after_start members
anchored_text empty = []
anchored_text (set members) = []
anchored_text at_start = []
anchored_text at_end = []
anchored_text (alt members) = []
anchored_text (repeat body least greatest) = []

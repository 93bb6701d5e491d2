-- The lines of a body, without their line feeds. A line ends at a line feed (10), as in POSIX.1-2017 XBD 3.206.
-- What comes after the last line feed is a line too, unless it is empty.
use Rattle.std.specs.Prelude.{ℕ, ◌==◌, if◌then◌else◌, List, [], ◌∷◌}

-- one more byte at the front of the first line
abbrev pub with_byte_in_front : ℕ → List (List ℕ) → List (List ℕ)
with_byte_in_front b [] = (b ∷ []) ∷ []
with_byte_in_front b (line ∷ lines) = (b ∷ line) ∷ lines

-- the greatest length of a line (this program's choice)
abbrev pub greatest_line : ℕ
greatest_line = 16384

unfoldable pub lines_of : List ℕ → List (List ℕ)
lines_of [] = []
lines_of (b ∷ body) = if b == 10 then [] ∷ lines_of body else with_byte_in_front b (lines_of body)

-- The words of a line (this program's own language): a space ends a word.
use Rattle.std.specs.Prelude.{ℕ, Bool, ◌==◌, List}
use Rattle.std.specs.List.{after_first, before_first}

-- whether the byte is a space, which ends a word
abbrev pub is_space : ℕ → Bool
is_space b = b == 32

-- up to the first space, or the whole text if it has none
abbrev pub first_word : List ℕ → List ℕ
first_word text = before_first is_space text

-- what is after the first space, or nothing if there is none
abbrev pub after_word : List ℕ → List ℕ
after_word text = after_first is_space text

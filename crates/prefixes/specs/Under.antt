-- Names that begin with texts.
use Rattle.std.specs.Prelude.{ℕ, Bool, not, ◌&&◌, ◌||◌, ◌==◌, List, bytes_eq, length, take}
use Rattle.std.specs.List.{list_any}

-- whether the name begins with the text
abbrev pub begins_with : List ℕ → List ℕ → Bool
begins_with text name = bytes_eq text (take (length text) name)

-- whether the name begins with one of the texts
abbrev pub is_under_one : List (List ℕ) → List ℕ → Bool
is_under_one texts name = list_any (λ text. begins_with text name) texts

-- whether the name begins with one of the first texts, if there are any, and with none of the others
abbrev pub is_within : List (List ℕ) → List (List ℕ) → List ℕ → Bool
is_within under not_under name = (length under == 0 || is_under_one under name) && not (is_under_one not_under name)

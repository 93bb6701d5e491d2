-- Sets of texts. A set is a list, and only its members matter: each set that is made has
-- each text once, in the order of first appearance.
use Rattle.std.specs.Prelude.{ℕ, ◌-◌, Bool, not, ◌&&◌, nat_lt, nat_le, List, [], ◌∷◌, ◌++◌, length, map, filter, drop, if◌then◌else◌}
use Rattle.std.specs.List.{list_any}
use Rattle.std.specs.Str.{bytes_eq}
pub use Rattle.query.specs.Texts.{Texts, joined_texts, has_all_of_one}

-- whether the text is one of these
abbrev pub has_text : Texts → List ℕ → Bool
has_text texts text = list_any (λ other. bytes_eq other text) texts

-- one more text, if it is not there yet
abbrev pub with_text : Texts → List ℕ → Texts
with_text texts text = if has_text texts text then texts else texts ++ text ∷ []

-- more texts, each if it is not there yet
unfoldable pub with_texts : Texts → Texts → Texts
with_texts texts [] = texts
with_texts texts (text ∷ others) = with_texts (with_text texts text) others

-- the texts of a list, each once
abbrev pub distinct : Texts → Texts
distinct texts = with_texts [] texts

abbrev pub union : Texts → Texts → Texts
union left right = distinct (left ++ right)

-- every text of the first, followed by every text of the second
abbrev pub joins : Texts → Texts → Texts
joins left right = distinct (joined_texts left right)

-- the last bytes of a text, or the whole text if it is shorter
abbrev pub ending : ℕ → List ℕ → List ℕ
ending count text = drop (length text - count) text

-- how to cut a text to so many bytes at one end: `take` for the prefix, `ending` for the suffix
abbrev pub Cut : Type 0
Cut = ℕ → List ℕ → List ℕ

-- the cut texts, each once
abbrev pub cuts : Cut → ℕ → Texts → Texts
cuts cut count texts = distinct (map (cut count) texts)

-- the most texts that are kept
abbrev pub most_texts : ℕ
most_texts = 16

-- how many bytes are kept: the greatest of 2, 1 and 0 that leaves at most 16 texts
abbrev pub kept_bytes : Cut → Texts → ℕ
kept_bytes cut texts =
    if nat_le (length (cuts cut 2 texts)) most_texts then 2
    else (if nat_le (length (cuts cut 1 texts)) most_texts then 1 else 0)

-- whether one text is the end of the other, and shorter
abbrev pub is_shorter_end : Cut → List ℕ → List ℕ → Bool
is_shorter_end cut part text = nat_lt (length part) (length text) && bytes_eq (cut (length part) text) part

-- whether one of the texts is a shorter end of this one
abbrev pub has_shorter_end : Cut → Texts → List ℕ → Bool
has_shorter_end cut texts text = list_any (λ part. is_shorter_end cut part text) texts

-- those with no shorter text of the set as their end
abbrev pub shortest : Cut → Texts → Texts
shortest cut texts = filter (λ text. not (has_shorter_end cut texts text)) texts

-- the ends that are kept of the texts
abbrev pub kept_ends : Cut → Texts → Texts
kept_ends cut texts = shortest cut (cuts cut (kept_bytes cut texts) texts)

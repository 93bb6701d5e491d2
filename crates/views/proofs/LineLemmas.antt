-- The next line of a body, by its first line feed.
use Rattle.std.proofs.Common.{◌≡◌, ℕ, suc, ◌+◌, ◌-◌, ◌<◌, ◌≤◌, false, List, [], ◌∷◌, ◌++◌, length, take, drop, refl, sym, ◌∙◌, ap, arith, inl, inr}
use Rattle.std.proofs.lemmas.Bool.{false≢true, cases_lt}
use Rattle.std.proofs.lemmas.Bool.Decides.{nat_tests}
use Rattle.std.proofs.lemmas.List.{length-take, length-drop}
use Rattle.lines.specs.Lines.{lines_of}
use Rattle.memchr.specs.Find.{is_byte, Nowhere, NoneBefore, Passes}
use Rattle.documents.proofs.LineLemmas.{rest-after}
use Rattle.views.specs.Found.{found, numbered}
use Rattle.views.proofs.LineEnds.{lines_of-memchr, lines_of-none}

-- the first line feed is at this place
abbrev pub EndsAt : List ℕ → ℕ → Type 0
EndsAt text place = NoneBefore (Passes (is_byte 10) text) 0 (length text) place × Passes (is_byte 10) text place

abbrev pub HasNoEnd : List ℕ → Type 0
HasNoEnd text = Nowhere (Passes (is_byte 10) text) 0 (length text)

pub numbered-first : (name : List ℕ) (line : ℕ) (text : List ℕ) (place : ℕ) → EndsAt text place
    → numbered name line (lines_of text)
    ≡ (found name line (take place text) ∷ [])
    ++ numbered name (line + 1) (lines_of (take (length text - (place + 1)) (drop (place + 1) text)))
unfolding numbered
numbered-first name line text place first =
    ap (λ lines. numbered name line lines) (lines_of-memchr text place first)
    ∙ (ap (λ rest. found name line (take place text) ∷ numbered name (suc line) (lines_of rest)) (sym (rest-after text place))
    ∙ ap (λ n. found name line (take place text) ∷ numbered name n (lines_of (take (length text - (place + 1)) (drop (place + 1) text)))) moved)
  where
    moved : suc line ≡ line + 1
    moved = omega arith

pub numbered-last : (name : List ℕ) (line : ℕ) (text : List ℕ) → 0 < length text → HasNoEnd text
    → numbered name line (lines_of text) ≡ (found name line text ∷ []) ++ []
unfolding numbered
numbered-last name line [] some none = absurd (omega arith)
numbered-last name line (b ∷ text) some none = ap (λ lines. numbered name line lines) (lines_of-none (b ∷ text) none)

pub numbered-empty : (name : List ℕ) (line : ℕ) (text : List ℕ) → length text ≡ 0 → numbered name line (lines_of text) ≡ []
unfolding numbered lines_of
numbered-empty name line [] e = refl
numbered-empty name line (b ∷ text) e = absurd (omega arith)

-- each line takes at least one byte
pub room-rest : (line most : ℕ) (text : List ℕ) (place : ℕ) → EndsAt text place → line + length text ≤ most
    → line + 1 + length (take (length text - (place + 1)) (drop (place + 1) text)) ≤ most
room-rest line most text place first room =
    let below : place < length text = first.0.high in
    omega (arith, length-take (length text - (place + 1)) (drop (place + 1) text), length-drop (place + 1) text)

-- ---- the first line and what is after it

pub split_first : (text : List ℕ) (place : ℕ) → EndsAt text place
    → lines_of text ≡ take place text ∷ lines_of (take (length text - (place + 1)) (drop (place + 1) text))
split_first text place first =
    lines_of-memchr text place first ∙ ap (λ rest. take place text ∷ lines_of rest) (sym (rest-after text place))

pub split_last : (text : List ℕ) → 0 < length text → HasNoEnd text → lines_of text ≡ text ∷ lines_of []
unfolding lines_of
split_last [] some none = absurd (omega arith)
split_last (b ∷ text) some none = lines_of-none (b ∷ text) none

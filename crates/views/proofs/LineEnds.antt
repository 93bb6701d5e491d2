-- The lines of a text by its first line feed.
use Rattle.std.proofs.Common.{◌≡◌, ◌≢◌, ℕ, zero, suc, ◌<◌, ◌≤◌, ◌==◌, ◌||◌, Bool, true, false, nat_lt, List, [], ◌∷◌, length}
use Rattle.std.proofs.Common.{take, drop, get_or, refl, ◌∙◌, ap, arith}
use Rattle.std.specs.List.{list_any}
use Rattle.std.proofs.Math.Bool.{or-false}
use Rattle.std.proofs.lemmas.Bool.Decides.{nat_tests}
use Rattle.std.proofs.lemmas.List.{length-take}
use Rattle.lines.specs.Lines.{lines_of, with_byte_in_front}
use Rattle.memchr.specs.Find.{is_byte, Nowhere, NoneBefore, Passes}

-- The text up to its first line feed, which is at the place, is the first line.
pub lines_of-first : (place : ℕ) (text : List ℕ) → place < length text → get_or text place 0 ≡ 10
    → ((k : ℕ) → k < place → get_or text k 0 ≢ 10) → lines_of text ≡ take place text ∷ lines_of (drop (suc place) text)
unfolding lines_of
lines_of-first place [] below found before = absurd (omega arith)
lines_of-first zero (b ∷ text) below found before =
    let here : (b == 10) ≡ true = grind (arith, nat_tests) in
    rw here refl
lines_of-first (suc place) (b ∷ text) below found before =
    let other = before 0 (omega arith) in
    let apart : (b == 10) ≡ false = grind (arith, nat_tests) in
    rw apart (ap (with_byte_in_front b) (lines_of-first place text (omega arith) found (λ k h. before (suc k) (omega arith))))

-- the lines of a text without a line feed: itself, unless it is empty
abbrev pub only_line : List ℕ → List (List ℕ)
only_line [] = []
only_line (b ∷ text) = (b ∷ text) ∷ []

pub lines_of-last : (text : List ℕ) → ((k : ℕ) → k < length text → get_or text k 0 ≢ 10) → lines_of text ≡ only_line text
unfolding lines_of
lines_of-last [] none = refl
lines_of-last (b ∷ text) none =
    let other = none 0 (omega arith) in
    let apart : (b == 10) ≡ false = grind (arith, nat_tests) in
    rw (apart, lines_of-last text (λ k h. none (suc k) (omega arith))) (more text)
  where
    more : (text : List ℕ) → with_byte_in_front b (only_line text) ≡ (b ∷ text) ∷ []
    more [] = refl
    more (c ∷ text) = refl

-- where memchr finds the first line feed
pub lines_of-memchr : (text : List ℕ) (place : ℕ)
    → (NoneBefore (Passes (is_byte 10) text) 0 (length text) place × Passes (is_byte 10) text place)
    → lines_of text ≡ take place text ∷ lines_of (drop (suc place) text)
lines_of-memchr text place first =
    let found : (get_or text place 0 == 10) ≡ true = first.1 in
    lines_of-first place text first.0.high (grind (arith, nat_tests)) (λ k below e. first.0.before k (omega arith) below (rw e refl))

pub lines_of-none : (text : List ℕ) → Nowhere (Passes (is_byte 10) text) 0 (length text) → lines_of text ≡ only_line text
lines_of-none text none = lines_of-last text (λ k below e. none k (omega arith) below (rw e refl))

-- The lines of a text, one after another.
use Rattle.std.proofs.Common.{◌≡◌, ℕ, zero, suc, ◌+◌, ◌-◌, ◌<◌, ◌≤◌, ◌==◌, ◌||◌, Bool, true, false, nat_lt, List, [], ◌∷◌, length}
use Rattle.std.proofs.Common.{take, drop, get_or, Option, Some, None, refl, sym, ◌∙◌, ap, arith, is_some, add-one, zero-add}
use Rattle.std.specs.List.{list_any}
use Rattle.std.proofs.lemmas.Bool.Decides.{nat_tests}
use Rattle.std.proofs.lemmas.List.{length-take, length-drop, take_all, get_or-take}
use Rattle.std.proofs.Math.Bool.{or-false, or-true}
use Rattle.std.proofs.lemmas.Bool.{false_from_ne_true}
use Rattle.std.proofs.Math.Nat.{min-le_right}
use Rattle.documents.specs.Text.{IsBody, IsBodyOf, has_byte_0, has_line_over, greatest_body}
use Rattle.documents.specs.declared.lengths.Lengths.{Lengths}
use Rattle.lines.specs.Lines.{lines_of, with_byte_in_front}
use Rattle.memchr.specs.Find.{IsFirstByte, is_byte, Nowhere, NoneAfter, Passes}

no_zero : (text : List ℕ) → ((k : ℕ) → k < length text → (get_or text k 0 == 0) ≡ true → ⊥) → has_byte_0 text ≡ false
no_zero [] none = refl
no_zero (b ∷ text) none = rw (false_from_ne_true (b == 0) (none 0 (omega arith)), no_zero text (λ k h. none (suc k) (omega arith))) refl

some_zero : (text : List ℕ) (place : ℕ) → place < length text → (get_or text place 0 == 0) ≡ true → has_byte_0 text ≡ true
some_zero [] place below found = absurd (omega arith)
some_zero (b ∷ text) zero below found = rw found refl
some_zero (b ∷ text) (suc place) below found = rw (some_zero text place (omega arith) found) (or-true (b == 0))

-- whether a list has a byte 0, by the first one
pub has_byte_0-memchr : (text : List ℕ) (found : Option ℕ) → IsFirstByte (is_byte 0) text found → is_some found ≡ has_byte_0 text
has_byte_0-memchr text None none = sym (no_zero text (λ k below. none k (omega arith) below))
has_byte_0-memchr text (Some place) first = sym (some_zero text place first.0.high first.1)

module _ (most : ℕ) where
  abbrev some_long : List (List ℕ) → Bool
  some_long lines = list_any (λ line. nat_lt most (length line)) lines

  -- whether some line is long, once the first one has n more bytes
  abbrev long_with : ℕ → List (List ℕ) → Bool
  long_with n [] = nat_lt most n
  long_with n (line ∷ lines) = nat_lt most (n + length line) || some_long lines

  long_with-none : (lines : List (List ℕ)) → some_long lines ≡ long_with 0 lines
  long_with-none [] = let none : nat_lt most 0 ≡ false = grind (arith, nat_tests) in sym none
  long_with-none (line ∷ lines) = ap (λ n. nat_lt most n || some_long lines) (sym (zero-add (length line)))

  long_with-byte : (b n : ℕ) (lines : List (List ℕ)) → long_with n (with_byte_in_front b lines) ≡ long_with (suc n) lines
  long_with-byte b n [] = or-false (nat_lt most (n + 1)) ∙ ap (nat_lt most) (add-one n)
  long_with-byte b n (line ∷ lines) =
      let one : n + suc (length line) ≡ suc n + length line = omega arith in
      ap (λ n. nat_lt most n || some_long lines) one

  -- the lines of a text that begins with a line feed, and of one that does not
  long_with-feed : (b n : ℕ) (text : List ℕ) → n ≤ most → (b == 10) ≡ true → long_with n (lines_of (b ∷ text)) ≡ long_with 0 (lines_of text)
  unfolding lines_of
  long_with-feed b n text short here =
      let none : nat_lt most (n + 0) ≡ false = grind (arith, nat_tests) in
      rw (here, none) (long_with-none (lines_of text))

  long_with-other : (b n : ℕ) (text : List ℕ) → (b == 10) ≡ false → long_with n (lines_of (b ∷ text)) ≡ long_with (suc n) (lines_of text)
  unfolding lines_of
  long_with-other b n text other = rw other (long_with-byte b n (lines_of text))

  -- Up to a line feed that comes early enough no line is long.
  feed_within : (place n : ℕ) (text : List ℕ) → n + place ≤ most → place < length text → (get_or text place 0 == 10) ≡ true
      → long_with n (lines_of text) ≡ long_with 0 (lines_of (drop (suc place) text))
  feed_within place n [] early below found = absurd (omega arith)
  feed_within zero n (b ∷ text) early below found = long_with-feed b n text (omega arith) found
  feed_within (suc place) n (b ∷ text) early below found =
      go (feed_within place 0 text (omega arith) (omega arith) found) (feed_within place (suc n) text (omega arith) (omega arith) found) (b == 10) refl
    where
      go : long_with 0 (lines_of text) ≡ long_with 0 (lines_of (drop (suc place) text))
          → long_with (suc n) (lines_of text) ≡ long_with 0 (lines_of (drop (suc place) text)) → (t : Bool) → (b == 10) ≡ t
          → long_with n (lines_of (b ∷ text)) ≡ long_with 0 (lines_of (drop (suc place) text))
      go from_feed from_other true here = long_with-feed b n text (omega arith) here ∙ from_feed
      go from_feed from_other false other = long_with-other b n text other ∙ from_other

  -- With no line feed among so many bytes, a line is long.
  none_within : (count n : ℕ) (text : List ℕ) → count ≤ length text → most < n + count
      → ((k : ℕ) → k < count → (get_or text k 0 == 10) ≡ true → ⊥) → long_with n (lines_of text) ≡ true
  none_within zero n text inside long none = already (lines_of text)
    where
      already : (lines : List (List ℕ)) → long_with n lines ≡ true
      already [] = grind (arith, nat_tests)
      already (line ∷ lines) = let first : nat_lt most (n + length line) ≡ true = grind (arith, nat_tests) in rw first refl
  none_within (suc count) n [] inside long none = absurd (omega arith)
  none_within (suc count) n (b ∷ text) inside long none =
      long_with-other b n text (false_from_ne_true (b == 10) (none 0 (omega arith)))
      ∙ none_within count (suc n) text (omega arith) (omega arith) (λ k below. none (suc k) (omega arith))

  -- a short text has no long line
  short_within : (n : ℕ) (text : List ℕ) → n + length text ≤ most → long_with n (lines_of text) ≡ false
  unfolding lines_of
  short_within n [] short = grind (arith, nat_tests)
  short_within n (b ∷ text) short = go (short_within 0 text (omega arith)) (short_within (suc n) text (omega arith)) (b == 10) refl
    where
      go : long_with 0 (lines_of text) ≡ false → long_with (suc n) (lines_of text) ≡ false → (t : Bool) → (b == 10) ≡ t
          → long_with n (lines_of (b ∷ text)) ≡ false
      go from_feed from_other true here = long_with-feed b n text (omega arith) here ∙ from_feed
      go from_feed from_other false other = long_with-other b n text other ∙ from_other

  pub long-short : (text : List ℕ) → length text ≤ most → has_line_over most text ≡ false
  long-short text short = long_with-none (lines_of text) ∙ short_within 0 text (omega arith)

  -- where memrchr finds the last line feed of so many bytes
  pub long-feed : (text : List ℕ) (place : ℕ) → most < length text
      → (NoneAfter (Passes (is_byte 10) (take (most + 1) text)) 0 (length (take (most + 1) text)) place × Passes (is_byte 10) (take (most + 1) text) place)
      → has_line_over most text ≡ has_line_over most (drop (suc place) text)
  long-feed text place long last =
      let below : place < (most + 1) = omega (arith, last.0.high, length-take (most + 1) text) in
      let found : (get_or text place 0 == 10) ≡ true = ap (λ b. b == 10) (sym (get_or-take (most + 1) text place 0 below)) ∙ last.1 in
      long_with-none (lines_of text) ∙ feed_within place 0 text (omega arith) (omega arith) found ∙ sym (long_with-none (lines_of (drop (suc place) text)))

  pub long-none : (text : List ℕ) → most < length text → Nowhere (Passes (is_byte 10) (take (most + 1) text)) 0 (length (take (most + 1) text))
      → has_line_over most text ≡ true
  long-none text long none =
      long_with-none (lines_of text)
      ∙ none_within (most + 1) 0 text (omega arith) (omega arith)
      (λ k below here.
      none k (omega arith) (omega (arith, length-take (most + 1) text)) (ap (λ b. b == 10) (get_or-take (most + 1) text k 0 below) ∙ here))

-- what `&text[place + 1..]` is
pub rest-after : (text : List ℕ) (place : ℕ) → take (length text - (place + 1)) (drop (place + 1) text) ≡ drop (suc place) text
rest-after text place =
    let size : length (drop (place + 1) text) ≤ length text - (place + 1) = omega (arith, length-drop (place + 1) text) in
    take_all (length text - (place + 1)) (drop (place + 1) text) size ∙ rw add-one refl

-- a body of some lengths is a body
pub body_of : (lengths : Lengths) (bytes : List ℕ) → IsBodyOf lengths bytes → IsBody bytes
body_of lengths bytes is = record { short = let below = min-le_right lengths.body greatest_body in omega (arith, is.short, below); text = is.text }

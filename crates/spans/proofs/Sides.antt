-- What is right before and after a match.
use Rattle.std.proofs.Common.{◌≡◌, ℕ, zero, suc, ◌≤◌, ◌<◌, Bool, true, false, ◌&&◌, nat_lt, IsTrue, IsFalse}
use Rattle.std.proofs.Common.{List, length, get_or, refl, subst, arith}
use Rattle.std.proofs.lemmas.Bool.Decides.{nat_tests}
use Rattle.std.proofs.lemmas.Bool.{false≢true}
use Rattle.ere.specs.Classes.{is_word_byte}
use Rattle.ere.specs.Tree.{Tree}
use Rattle.spans.specs.FirstSpan.{IsMatchAt, IsWhole}
use Rattle.spans.specs.Sides.{is_word_after, is_word_before}
use Rattle.spans.specs.Spans.{Spans}
use Rattle.spans.proofs.Meaning.{spans_within}

-- what is right before and after a part that is whole
free_before : (line : List ℕ) (start end : ℕ) → IsWhole line start end → is_word_before line start ≡ false
free_before line zero end whole = refl
free_before line (suc k) end whole = whole.before k refl

free_after : (line : List ℕ) (start end : ℕ) → IsWhole line start end → is_word_after line end ≡ false
free_after line start end whole = go (nat_lt end (length line)) refl
  where
    go : (t : Bool) → nat_lt end (length line) ≡ t → (t && is_word_byte (get_or line end 0)) ≡ false
    go true e = whole.after (grind (arith, nat_tests))
    go false e = refl

whole_of_free : (line : List ℕ) (start end : ℕ) → is_word_before line start ≡ false → is_word_after line end ≡ false → IsWhole line start end
whole_of_free line start end front back = record { before = λ k e. before k e; after = λ inside. after inside }
  where
    before : (k : ℕ) → start ≡ suc k → IsFalse (is_word_byte (get_or line k 0))
    before k e = subst (λ n. is_word_before line n ≡ false) e front

    after : end < length line → IsFalse (is_word_byte (get_or line end 0))
    after inside = let test : nat_lt end (length line) ≡ true = grind (arith, nat_tests) in rw test at back

pub free_start : (line : List ℕ) (tree : Tree) (whole_words : Bool) (start end : ℕ) → IsMatchAt line tree whole_words start end
    → (whole_words && is_word_before line start) ≡ false
free_start line tree true start end m = free_before line start end (m.whole refl)
free_start line tree false start end m = refl

pub free_end : (line : List ℕ) (tree : Tree) (whole_words : Bool) (start end : ℕ) → IsMatchAt line tree whole_words start end
    → (whole_words && is_word_after line end) ≡ false
free_end line tree true start end m = free_after line start end (m.whole refl)
free_end line tree false start end m = refl

-- a word with no word byte right before it and right after it, if whole words are asked for
pub match_of_free : (line : List ℕ) (tree : Tree) (whole_words : Bool) (start end : ℕ) → start ≤ length line → Spans line tree start end
    → (whole_words && is_word_before line start) ≡ false → (whole_words && is_word_after line end) ≡ false → IsMatchAt line tree whole_words start end
match_of_free line tree whole_words start end inside word front back =
    let within = spans_within line tree start end inside word in
    record { ordered = within.0; inside = within.1; word = word; whole = whole whole_words front back }
  where
    whole : (t : Bool) → (t && is_word_before line start) ≡ false → (t && is_word_after line end) ≡ false → IsTrue t → IsWhole line start end
    whole true one two e = whole_of_free line start end one two
    whole false one two e = absurd (false≢true e)

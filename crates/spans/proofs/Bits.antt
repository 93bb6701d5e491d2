-- Bits that move, and the positions of a set of words.
use Rattle.std.proofs.Common.{◌≡◌, ◌≢◌, ℕ, ◌+◌, ◌-◌, ◌*◌, ◌/◌, ◌%◌, ◌^◌, ◌≤◌, ◌<◌, Bool, true, false, not, ◌&&◌, ◌||◌, ◌==◌, nat_le, IsTrue}
use Rattle.std.proofs.Common.{List, length, get_or, set, refl, sym, ap, ◌∙◌, arith, w64}
use Rattle.std.proofs.lemmas.List.{get_or-set_same, get_or-set_other}
use Rattle.std.proofs.lemmas.Bool.Decides.{nat_tests}
use Rattle.std.proofs.lemmas.Nat.{and_le_l, pow_pos}
use Rattle.std.proofs.lemmas.Nat.Bits.{bit_at_above, bit_at_ones, bit_at_ones_above, ones_shr}
use Rattle.std.proofs.lemmas.Nat.Bits.{bit_at-trailing_zeros, bit_at_cat_low, bit_at_cat_high}
use Rattle.std.specs.Prelude.{bit_and, bit_or}
use Rattle.std.specs.Int.{bit_at, bit_not, trailing_zeros}
pub use Rattle.std.proofs.Math.Bool.{or-false as or_none, and-true as and_all}
pub use Rattle.std.proofs.lemmas.Bool.{false≢true, false_from_ne_true as is_false}
use Rattle.ere.proofs.Bits.{has_or, has_zero, has_cleared}
use Rattle.ere.specs.Bits.{has_bit}
use Rattle.spans.specs.PositionSets.{has_position}

-- the lowest bit of a word that is not 0
pub some_bit : (word : ℕ) → 0 < word → word < 2 ^ 64 → (trailing_zeros w64 word < 64) × IsTrue (has_bit word (trailing_zeros w64 word))
some_bit word some small = let lowest = bit_at-trailing_zeros w64 word some small in (lowest.0, ap (λ n. n == 1) lowest.1)

pub lowest_bit : (word : ℕ) → 0 < word → word < 2 ^ 64 → (trailing_zeros w64 word < 64) × ((b : ℕ) → b < trailing_zeros w64 word → has_bit word b ≡ false)
lowest_bit word some small = let lowest = bit_at-trailing_zeros w64 word some small in (lowest.0, λ b below. ap (λ n. n == 1) (lowest.2 b below))

pub cleared_less : (word bit : ℕ) → bit < 64 → IsTrue (has_bit word bit) → bit_and word (bit_not w64 (1 * 2 ^ bit % 2 ^ 64)) < word
cleared_less word bit inside held =
    less (bit_and word (bit_not w64 (1 * 2 ^ bit % 2 ^ 64))) (and_le_l word (bit_not w64 (1 * 2 ^ bit % 2 ^ 64)))
    (λ e. false≢true (sym gone ∙ ap (λ n. has_bit n bit) e ∙ held))
  where
    less : (n : ℕ) → n ≤ word → n ≢ word → n < word
    less n le apart = omega arith

    and_no : (t : Bool) → (t && false) ≡ false
    and_no true = refl
    and_no false = refl

    same : bit == bit ≡ true
    same = grind (arith, nat_tests)

    gone : has_bit (bit_and word (bit_not w64 (1 * 2 ^ bit % 2 ^ 64))) bit ≡ false
    gone = has_cleared word bit bit inside inside ∙ ap (λ t. has_bit word bit && not t) same ∙ and_no (has_bit word bit)

-- `MAX >> 63 - last`
pub has_through : (last b : ℕ) → last < 64 → has_bit ((2 ^ 64 - 1) / 2 ^ (63 - last)) b ≡ nat_le b last
has_through last b inside = ap (λ n. has_bit n b) (ones_shr 64 (63 - last) (omega arith) ∙ ap (λ n. 2 ^ n - 1) width) ∙ go (nat_le b last) refl
  where
    width : 64 - (63 - last) ≡ last + 1
    width = omega arith

    go : (t : Bool) → nat_le b last ≡ t → has_bit (2 ^ (last + 1) - 1) b ≡ nat_le b last
    go true e = let low : b < last + 1 = grind (arith, nat_tests) in rw e (ap (λ n. n == 1) (bit_at_ones (last + 1) b low))
    go false e = let high : last + 1 ≤ b = grind (arith, nat_tests) in rw e (ap (λ n. n == 1) (bit_at_ones_above (last + 1) b high))

-- bits moved up by one
split_word : (word : ℕ) → word ≡ word / 2 ^ 63 * 2 ^ 63 + word % 2 ^ 63
split_word word = omega arith

moved_word : (word : ℕ) → word < 2 ^ 64 → word * 2 ^ 1 % 2 ^ 64 ≡ word % 2 ^ 63 * 2 ^ 1 + 0
moved_word word small = omega arith

pub moved_lowest : (word carried : ℕ) → word < 2 ^ 64 → has_bit (bit_or (word * 2 ^ 1 % 2 ^ 64) carried) 0 ≡ has_bit carried 0
moved_lowest word carried small =
    has_or (word * 2 ^ 1 % 2 ^ 64) carried 0 ∙ ap (λ n. has_bit n 0 || has_bit carried 0) (moved_word word small)
    ∙ ap (λ n. n == 1 || has_bit carried 0) (bit_at_cat_low (word % 2 ^ 63) 1 0 0 (omega arith))

one_small : (carried b : ℕ) → carried < 2 → has_bit carried (b + 1) ≡ false
one_small carried b small = ap (λ n. n == 1) (bit_at_above carried 1 (b + 1) (omega arith) (omega arith))

pub moved_others : (word carried b : ℕ) → word < 2 ^ 64 → carried < 2 → b < 63 → has_bit (bit_or (word * 2 ^ 1 % 2 ^ 64) carried) (b + 1) ≡ has_bit word b
moved_others word carried b small bit inside =
    let back : b + 1 - 1 ≡ b = omega arith in
    let low : bit_at (word % 2 ^ 63) b ≡ bit_at word b =
    sym (bit_at_cat_low (word / 2 ^ 63) 63 (word % 2 ^ 63) b inside) ∙ ap (λ n. bit_at n b) (sym (split_word word)) in
    let up : bit_at (word % 2 ^ 63 * 2 ^ 1 + 0) (b + 1) ≡ bit_at word b =
    bit_at_cat_high (word % 2 ^ 63) 1 0 (b + 1) (omega arith) (omega arith) ∙ ap (λ n. bit_at (word % 2 ^ 63) n) back ∙ low in
    has_or (word * 2 ^ 1 % 2 ^ 64) carried (b + 1) ∙ ap (λ t. has_bit (word * 2 ^ 1 % 2 ^ 64) (b + 1) || t) (one_small carried b bit)
    ∙ or_none (has_bit (word * 2 ^ 1 % 2 ^ 64) (b + 1)) ∙ ap (λ n. has_bit n (b + 1)) (moved_word word small) ∙ ap (λ n. n == 1) up

-- Position 64 i + b is bit b of word i.
pub position_in : (words : List ℕ) (i b : ℕ) → b < 64 → has_position words (i * 64 + b) ≡ has_bit (get_or words i 0) b
unfolding has_position
position_in words i b inside =
    let word : (i * 64 + b) / 64 ≡ i = omega arith in
    let bit : (i * 64 + b) % 64 ≡ b = omega arith in
    rw (word, bit) refl

pub position_is : (words : List ℕ) (k : ℕ) → has_position words k ≡ has_bit (get_or words (k / 64) 0) (k % 64)
unfolding has_position
position_is words k = refl

pub same_word : (left right : List ℕ) (k : ℕ) → get_or left (k / 64) 0 ≡ get_or right (k / 64) 0 → has_position left k ≡ has_position right k
unfolding has_position
same_word left right k e = ap (λ n. has_bit n (k % 64)) e

pub empty_word : (words : List ℕ) (k : ℕ) → get_or words (k / 64) 0 ≡ 0 → has_position words k ≡ false
unfolding has_position
empty_word words k e = ap (λ n. has_bit n (k % 64)) e ∙ has_zero (k % 64)

pub position_set_same : (words : List ℕ) (i word b : ℕ) → i < length words → b < 64 → has_position (set words i word) (i * 64 + b) ≡ has_bit word b
position_set_same words i word b inside within = position_in (set words i word) i b within ∙ ap (λ n. has_bit n b) (get_or-set_same words i word 0 inside)

pub position_set_other : (words : List ℕ) (i word k : ℕ) → k / 64 ≢ i → has_position (set words i word) k ≡ has_position words k
position_set_other words i word k other = same_word (set words i word) words k (get_or-set_other words i (k / 64) word 0 other)

-- `word << at`
pub has_moved_to : (word at b : ℕ) → b < 64 → has_bit (word * 2 ^ at % 2 ^ 64) b ≡ (nat_le at b && has_bit word (b - at))
has_moved_to word at b inside =
    ap (λ n. n == 1)
    (sym (bit_at_cat_low (word * 2 ^ at / 2 ^ 64) 64 (word * 2 ^ at % 2 ^ 64) b inside) ∙ ap (λ n. bit_at n b) (whole (word * 2 ^ at)))
    ∙ go (nat_le at b) refl
  where
    whole : (n : ℕ) → n / 2 ^ 64 * 2 ^ 64 + n % 2 ^ 64 ≡ n + 0
    whole n = omega arith

    go : (t : Bool) → nat_le at b ≡ t → has_bit (word * 2 ^ at + 0) b ≡ (t && has_bit word (b - at))
    go true e = let from : at ≤ b = grind (arith, nat_tests) in ap (λ n. n == 1) (bit_at_cat_high word at 0 b (pow_pos at) from)
    go false e = let before : b < at = grind (arith, nat_tests) in ap (λ n. n == 1) (bit_at_cat_low word at 0 b before) ∙ has_zero b

pub has_no_more : (word b : ℕ) → word < 2 ^ 16 → 16 ≤ b → has_bit word b ≡ false
has_no_more word b small far = ap (λ n. n == 1) (bit_at_above word 16 b small far)

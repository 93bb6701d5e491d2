-- Vectors of sixteen bytes, and the bits of words in them.
use Rattle.std.proofs.Common.{◌≡◌, ℕ, zero, suc, ◌+◌, ◌*◌, ◌/◌, ◌%◌, ◌^◌, ◌<◌, ◌≤◌, List, [], ◌∷◌, Bool, true, false, cond, ◌==◌, eqb, ltb}
use Rattle.std.proofs.Common.{length, get_or, map, replicate, refl, sym, ap, ◌∙◌, arith, w8, bit_and, Fits, shr-shr}
use Rattle.std.specs.Int.{bit_at}
use Rattle.std.specs.Simd.Lanes.{zip2, sel_l, mask_l, top, Each1}
use Rattle.std.proofs.lemmas.Nat.{pow_pos}
use Rattle.std.proofs.lemmas.Simd.{length-zip2, get_or-zip2, get_or-replicate, length-sel_l, get_or-sel_l, bit_mask_l, tops_compared}
use Rattle.std.proofs.lemmas.Simd.{mask_l-mod, mask_l-lt, length-swz_l, get_or-swz_l_below, swz_l, SwzOk, SwzOk-from_below}
use Rattle.std.proofs.lemmas.Simd.{Each1-from_get_or, Each1-get_or}
use Rattle.std.proofs.lemmas.Nat.Bits.{and_pow, bit_at-lt, bit_at_cat_low}
use Rattle.std.proofs.lemmas.Bool.Decides.{nat_tests}
use Rattle.ere.specs.Bits.{has_bit}
use Rattle.ere.specs.Private.Lanes.{HasLanes}
use Rattle.ere.specs.Private.SetWords.{has_byte}
use Rattle.ere.proofs.SetWords.{byte_is}

-- an operator on a vector and a splat
pub lanes_splat : (f : ℕ → ℕ → ℕ) (a : List ℕ) (x : ℕ) → length a ≡ 16 → HasLanes (zip2 f a (replicate 16 x)) (λ k. f (get_or a k 0) x)
lanes_splat f a x p = record {
  long = length-zip2 f a (replicate 16 x) p ∙ p;
  each = λ k l. get_or-zip2 f a (replicate 16 x) k 0 0 0 (omega arith) l ∙ ap (f (get_or a k 0)) (get_or-replicate 16 k x 0 l);
}

pub lanes_are : (lanes : List ℕ) (f g : ℕ → ℕ) → ((k : ℕ) → k < 16 → f k ≡ g k) → HasLanes lanes f → HasLanes lanes g
lanes_are lanes f g same h = record { long = h.long; each = λ k l. h.each k l ∙ same k l }

pub byte_small : (v : List ℕ) → length v ≡ 16 → Each1 (Fits w8) v → (k : ℕ) → k < 16 → get_or v k 0 < 256
byte_small v long fits k l = (Each1-get_or (Fits w8) v k 0 (omega arith) fits).fits

-- a look-up at places below 16
pub may_look_up : (js : List ℕ) → length js ≡ 16 → ((k : ℕ) → k < 16 → get_or js k 0 < 16) → SwzOk w8 16 16 0 js
may_look_up js long small = SwzOk-from_below w8 16 1 16 0 js refl (omega arith) (Each1-from_get_or (λ j. j < 16) js 0 (λ i l. small i (omega arith)))

pub lanes_looked_up : (table js : List ℕ) → length js ≡ 16 → ((k : ℕ) → k < 16 → get_or js k 0 < 16)
    → HasLanes (swz_l w8 16 table 0 js) (λ k. get_or table (get_or js k 0) 0)
lanes_looked_up table js long small = record {
  long = length-swz_l w8 16 table 0 js ∙ long;
  each = λ k l.
      let below = small k l in
      get_or-swz_l_below w8 16 table 0 js k (omega arith) below ∙ ap (λ j. get_or table j 0) (omega arith);
}

-- a choice by the comparison with a splat
pub lanes_halves : (v low high : List ℕ) (x : ℕ) → length v ≡ 16 → length low ≡ 16 → length high ≡ 16
    → HasLanes (sel_l (zip2 ltb v (replicate 16 x)) low high) (λ k. cond (ltb (get_or v k 0) x) (get_or low k 0) (get_or high k 0))
lanes_halves v low high x p q r =
    let long : length (zip2 ltb v (replicate 16 x)) ≡ 16 = length-zip2 ltb v (replicate 16 x) p ∙ p in
    record {
      long = length-sel_l (zip2 ltb v (replicate 16 x)) low high (omega arith) (omega arith) ∙ long;
      each = λ k l.
          get_or-sel_l (zip2 ltb v (replicate 16 x)) low high k 0 (omega arith) (omega arith) (omega arith)
          ∙ ap (λ t. cond t (get_or low k 0) (get_or high k 0))
          (get_or-zip2 ltb v (replicate 16 x) k 0 0 false (omega arith) l ∙ ap (ltb (get_or v k 0)) (get_or-replicate 16 k x 0 l));
    }

one_is : (t : Bool) → (cond t 1 0 == 1) ≡ t
one_is true = refl
one_is false = refl

-- the mask of the lanes of two vectors that are equal
pub equal_lanes : (a b : List ℕ) → length a ≡ 16 → length b ≡ 16
    → mask_l (map (top 7) (zip2 (λ x y. cond (eqb x y) 255 0) a b)) % 2 ^ 64 ≡ mask_l (zip2 eqb a b)
equal_lanes a b p q = ap (λ ms. mask_l ms % 2 ^ 64) (tops_compared w8 eqb a b) ∙ mask_l-mod (zip2 eqb a b) 64 (omega (arith, length-zip2 eqb a b (p ∙ sym q)))

pub equal_small : (a b : List ℕ) → length a ≡ 16 → length b ≡ 16 → mask_l (zip2 eqb a b) < 2 ^ 16
equal_small a b p q = rw (length-zip2 eqb a b (p ∙ sym q) ∙ p) at (mask_l-lt (zip2 eqb a b))

pub equal_each : (a b : List ℕ) → length a ≡ 16 → length b ≡ 16 → (k : ℕ) → k < 16 → has_bit (mask_l (zip2 eqb a b)) k ≡ (get_or a k 0 == get_or b k 0)
equal_each a b p q k l =
    ap (λ n. n == 1) (bit_mask_l (zip2 eqb a b) k ∙ ap (λ t. cond t 1 0) (get_or-zip2 eqb a b k 0 0 false (omega arith) (omega arith)))
    ∙ one_is (eqb (get_or a k 0) (get_or b k 0))

-- Bit k of byte j of a word is bit 8 j + k of the word.
power_of_byte : (j : ℕ) → j < 8 → 256 ^ j ≡ 2 ^ (8 * j)
power_of_byte zero l = refl
power_of_byte (suc zero) l = refl
power_of_byte (suc (suc zero)) l = refl
power_of_byte (suc (suc (suc zero))) l = refl
power_of_byte (suc (suc (suc (suc zero)))) l = refl
power_of_byte (suc (suc (suc (suc (suc zero))))) l = refl
power_of_byte (suc (suc (suc (suc (suc (suc zero)))))) l = refl
power_of_byte (suc (suc (suc (suc (suc (suc (suc zero))))))) l = refl
power_of_byte (suc (suc (suc (suc (suc (suc (suc (suc j)))))))) l = absurd (omega arith)

abbrev pub powers : List ℕ
powers = 1 ∷ 2 ∷ 4 ∷ 8 ∷ 16 ∷ 32 ∷ 64 ∷ 128 ∷ 1 ∷ 2 ∷ 4 ∷ 8 ∷ 16 ∷ 32 ∷ 64 ∷ 128 ∷ []

pub power_of_bit : (k : ℕ) → k < 8 → get_or powers k 0 ≡ 2 ^ k
power_of_bit zero l = refl
power_of_bit (suc zero) l = refl
power_of_bit (suc (suc zero)) l = refl
power_of_bit (suc (suc (suc zero))) l = refl
power_of_bit (suc (suc (suc (suc zero)))) l = refl
power_of_bit (suc (suc (suc (suc (suc zero))))) l = refl
power_of_bit (suc (suc (suc (suc (suc (suc zero)))))) l = refl
power_of_bit (suc (suc (suc (suc (suc (suc (suc zero))))))) l = refl
power_of_bit (suc (suc (suc (suc (suc (suc (suc (suc k)))))))) l = absurd (omega arith)

all_or_none : (t p : ℕ) → 0 < p → t < 2 → (t * p == p) ≡ (t == 1)
all_or_none zero p some s = grind (arith, nat_tests)
all_or_none (suc zero) p some s = grind (arith, nat_tests)
all_or_none (suc (suc t)) p some s = absurd (omega arith)

pub byte_of_word : (w j k : ℕ) → j < 8 → k < 8 → (bit_and (w / 256 ^ j % 256) (2 ^ k) == 2 ^ k) ≡ has_bit w (8 * j + k)
byte_of_word w j k a b =
    let moved : bit_at (w / 256 ^ j) k ≡ bit_at w (8 * j + k) = ap (λ m. w / m / 2 ^ k % 2) (power_of_byte j a) ∙ ap (λ m. m % 2) (shr-shr w (8 * j) k) in
    ap (λ m. m == 2 ^ k) (and_pow (w / 256 ^ j % 256) k)
    ∙ all_or_none (bit_at (w / 256 ^ j % 256) k) (2 ^ k) (pow_pos k) (bit_at-lt (w / 256 ^ j % 256) k)
    ∙ ap (λ m. m == 1) (low (w / 256 ^ j) ∙ moved)
  where
    whole : (n : ℕ) → n ≡ n / 256 * 2 ^ 8 + n % 256
    whole n = omega arith

    low : (n : ℕ) → bit_at (n % 256) k ≡ bit_at n k
    low n = sym (ap (λ m. bit_at m k) (whole n) ∙ bit_at_cat_low (n / 256) 8 (n % 256) k b)

-- one of two words
pub first_two : (words : List ℕ) (i : ℕ) → i < 2 → get_or (get_or words 0 0 ∷ get_or words 1 0 ∷ []) i 0 ≡ get_or words i 0
first_two words zero l = refl
first_two words (suc zero) l = refl
first_two words (suc (suc i)) l = absurd (omega arith)

pub last_two : (words : List ℕ) (i : ℕ) → i < 2 → get_or (get_or words 2 0 ∷ get_or words 3 0 ∷ []) i 0 ≡ get_or words (i + 2) 0
last_two words zero l = refl
last_two words (suc zero) l = refl
last_two words (suc (suc i)) l = absurd (omega arith)

-- Whether a set has byte b is bit b mod 8 of byte b / 8 mod 8 of word b / 64.
at_place : (words : List ℕ) (b p i w : ℕ) → p ≡ b / 8 % 16 → w ≡ get_or words i 0 → i ≡ b / 64
    → (bit_and (w / 256 ^ (p % 8) % 256) (2 ^ (b % 8)) == 2 ^ (b % 8)) ≡ has_byte words b
at_place words b p i w place word index =
    let bit : 8 * (p % 8) + b % 8 ≡ b % 64 = omega arith in
    byte_of_word w (p % 8) (b % 8) (omega arith) (omega arith) ∙ ap (λ n. has_bit w n) bit
    ∙ ap (λ n. has_bit n (b % 64)) (word ∙ ap (λ n. get_or words n 0) index) ∙ sym (byte_is words b)

pub bit_is_byte : (words : List ℕ) (b low high : ℕ) → b < 256
    → low ≡ get_or (get_or words 0 0 ∷ get_or words 1 0 ∷ []) (b / 8 % 16 / 8) 0 / 256 ^ (b / 8 % 16 % 8) % 256
    → high ≡ get_or (get_or words 2 0 ∷ get_or words 3 0 ∷ []) (b / 8 % 16 / 8) 0 / 256 ^ (b / 8 % 16 % 8) % 256
    → (bit_and (cond (ltb b 128) low high) (2 ^ (b % 8)) == 2 ^ (b % 8)) ≡ has_byte words b
bit_is_byte words b low high small lower upper = go (ltb b 128) refl
  where
    p : ℕ
    p = b / 8 % 16

    go : (t : Bool) → ltb b 128 ≡ t → (bit_and (cond (ltb b 128) low high) (2 ^ (b % 8)) == 2 ^ (b % 8)) ≡ has_byte words b
    go true e =
        let below : b < 128 = grind (arith, nat_tests) in
        ap (λ t. bit_and (cond t low high) (2 ^ (b % 8)) == 2 ^ (b % 8)) e ∙ ap (λ n. bit_and n (2 ^ (b % 8)) == 2 ^ (b % 8)) lower
        ∙ at_place words b p (p / 8) (get_or (get_or words 0 0 ∷ get_or words 1 0 ∷ []) (p / 8) 0) refl
        (first_two words (p / 8) (omega arith)) (omega arith)
    go false e =
        let from : 128 ≤ b = grind (arith, nat_tests) in
        ap (λ t. bit_and (cond t low high) (2 ^ (b % 8)) == 2 ^ (b % 8)) e ∙ ap (λ n. bit_and n (2 ^ (b % 8)) == 2 ^ (b % 8)) upper
        ∙ at_place words b p (p / 8 + 2) (get_or (get_or words 2 0 ∷ get_or words 3 0 ∷ []) (p / 8) 0) refl
        (last_two words (p / 8) (omega arith)) (omega arith)

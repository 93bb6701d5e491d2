-- A set's words can be computed from its truth values. The proof is here, and not among the proofs, because the set's `Model` cites it.
use Rattle.std.proofs.Common.{◌≡◌, ℕ, zero, suc, ◌+◌, ◌*◌, ◌/◌, ◌%◌, ◌^◌, ◌<◌, Bool, false, cond, ◌==◌, List, map, length, get_or, refl}
use Rattle.std.proofs.Common.{sym, ap, subst, ◌∙◌, arith}
use Rattle.std.specs.List.{range_with_len}
use Rattle.std.specs.Int.{bit_at}
use Rattle.std.specs.Simd.Lanes.{mask_l}
use Rattle.std.proofs.lemmas.List.FromFn.{get_or-map-range_with_len, length-map-range_with_len}
use Rattle.std.proofs.lemmas.Grind.{same_number_lists}
use Rattle.std.proofs.lemmas.Nat.Bits.{bit_at-lt, same_from_bits_below}
use Rattle.std.proofs.lemmas.Simd.{mask_l-lt, bit_mask_l}
use Rattle.ere.specs.Bits.{has_bit}
use Rattle.ere.specs.Private.SetWords.{has_byte, values_of, word_of, words_of, AreLineBytes}

pub byte_in : (words : List ℕ) (i b : ℕ) → b < 64 → has_byte words (i * 64 + b) ≡ has_bit (get_or words i 0) b
unfolding has_byte
byte_in words i b inside =
    let word : (i * 64 + b) / 64 ≡ i = omega arith in
    let bit : (i * 64 + b) % 64 ≡ b = omega arith in
    rw (word, bit) refl

pub get_or-values_of : (words : List ℕ) (b : ℕ) → b < 256 → get_or (values_of words) b false ≡ has_byte words b
unfolding values_of
get_or-values_of words b below = get_or-map-range_with_len (has_byte words) 0 256 b b false below (omega arith)

bit_is : (x : ℕ) → x < 2 → cond (x == 1) 1 0 ≡ x
bit_is zero small = refl
bit_is (suc zero) small = refl
bit_is (suc (suc x)) small = absurd (omega arith)

pub word_from : (test : ℕ → Bool) (word first : ℕ) → word < 2 ^ 64 → ((k : ℕ) → k < 64 → test (first + k) ≡ has_bit word k)
    → mask_l (map test (range_with_len first 64)) ≡ word
word_from test word first small each = same_from_bits_below 64 (mask_l bits) word below small same
  where
    bits : List Bool
    bits = map test (range_with_len first 64)

    below : mask_l bits < 2 ^ 64
    below = subst (λ n. mask_l bits < 2 ^ n) (length-map-range_with_len test first 64) (mask_l-lt bits)

    same : (k : ℕ) → k < 64 → bit_at (mask_l bits) k ≡ bit_at word k
    same k inside =
        bit_mask_l bits k ∙ ap (λ t. cond t 1 0) (get_or-map-range_with_len test first 64 k (first + k) false inside refl ∙ each k inside)
        ∙ bit_is (bit_at word k) (bit_at-lt word k)

pub words_of-values_of : (words : List ℕ) → AreLineBytes words → words_of (values_of words) ≡ words
unfolding words_of
words_of-values_of words h =
    same_number_lists (words_of (values_of words)) words
    (length-map-range_with_len (λ i. word_of (values_of words) (i * 64)) 0 4 ∙ sym h.whole) each
  where
    each : (i : ℕ) → i < length (words_of (values_of words)) → get_or (words_of (values_of words)) i 0 ≡ get_or words i 0
    each i inside =
        let four : length (words_of (values_of words)) ≡ 4 = length-map-range_with_len (λ i. word_of (values_of words) (i * 64)) 0 4 in
        let place : i < 4 = omega arith in
        get_or-map-range_with_len (λ i. word_of (values_of words) (i * 64)) 0 4 i i 0 place (omega arith)
        ∙ word_from (λ b. get_or (values_of words) b false) (get_or words i 0) (i * 64) (h.small i)
        (λ k low. get_or-values_of words (i * 64 + k) (omega arith) ∙ byte_in words i k low)

-- Sets of line bytes as four words.
use Rattle.std.proofs.Common.{◌≡◌, ◌≢◌, ℕ, zero, suc, ◌+◌, ◌*◌, ◌/◌, ◌%◌, ◌^◌, ◌≤◌, ◌<◌, Bool, true, false, cond, not, ◌&&◌, ◌||◌, ◌==◌}
use Rattle.std.proofs.Common.{nat_lt, IsTrue, List, [], ◌∷◌, ◌++◌, map, replicate, length, get_or, set, count_by, count_ones, refl, sym, ap}
use Rattle.std.proofs.Common.{subst, ◌∙◌, arith, append_assoc}
use Rattle.std.specs.List.{range_with_len}
use Rattle.std.specs.Simd.Lanes.{mask_l}
use Rattle.std.proofs.lemmas.List.{append-nil, get_or-set_same, get_or-set_other}
use Rattle.std.proofs.lemmas.List.FromFn.{length-map-range_with_len, map-range_with_len_more}
use Rattle.std.proofs.lemmas.List.Sums.{count_by-le-length, sum_by-append}
use Rattle.std.proofs.lemmas.Bool.Decides.{nat_tests}
use Rattle.std.proofs.lemmas.Simd.{ones-mask_l_cons}
use Rattle.std.proofs.Math.Bool.{and-false}
use lib.Count.{ones}
use Rattle.ere.specs.Bits.{has_bit}
use Rattle.ere.specs.ByteSet.{is_line_byte, has, set_of, empty_set, size_of}
use Rattle.ere.specs.Private.SetWords.{has_byte, values_of, AreLineBytes}
use Rattle.ere.specs.Private.SetInverse.{byte_in, get_or-values_of, word_from}
use Rattle.ere.proofs.Bits.{has_zero}
use Rattle.ere.proofs.SetLemmas.{IsByteSet, left_of, set_of_all, get_or-has}

-- Byte b is bit b mod 64 of word b / 64.
pub byte_is : (words : List ℕ) (b : ℕ) → has_byte words b ≡ has_bit (get_or words (b / 64) 0) (b % 64)
unfolding has_byte
byte_is words b = refl

same_bits : (b byte : ℕ) → b / 64 ≡ byte / 64 → (b % 64 == byte % 64) ≡ (b == byte)
same_bits b byte same = go (b == byte) refl
  where
    go : (t : Bool) → (b == byte) ≡ t → (b % 64 == byte % 64) ≡ (b == byte)
    go true e = let one : b ≡ byte = grind (arith, nat_tests) in rw (e, one) test
      where
        test : (byte % 64 == byte % 64) ≡ true
        test = grind (arith, nat_tests)
    go false e =
        let two : b ≢ byte = grind (arith, nat_tests) in
        let parts : b % 64 ≢ byte % 64 = omega arith in
        let test : (b % 64 == byte % 64) ≡ false = grind (arith, nat_tests) in
        rw (e, test) refl

-- a word changed at one bit
pub byte_changed : (words : List ℕ) (byte word : ℕ) (join : Bool → Bool → Bool) → byte / 64 < length words → ((t : Bool) → join t false ≡ t)
    → ((k : ℕ) → k < 64 → has_bit word k ≡ join (has_bit (get_or words (byte / 64) 0) k) (k == byte % 64)) → (b : ℕ)
    → has_byte (set words (byte / 64) word) b ≡ join (has_byte words b) (b == byte)
byte_changed words byte word join inside stays each b =
    byte_is (set words (byte / 64) word) b ∙ go (b / 64 == byte / 64) refl ∙ ap (λ t. join t (b == byte)) (sym (byte_is words b))
  where
    low : b % 64 < 64
    low = omega arith

    go : (t : Bool) → (b / 64 == byte / 64) ≡ t
        → has_bit (get_or (set words (byte / 64) word) (b / 64) 0) (b % 64) ≡ join (has_bit (get_or words (b / 64) 0) (b % 64)) (b == byte)
    go true e =
        let same : b / 64 ≡ byte / 64 = grind (arith, nat_tests) in
        let changed : has_bit (get_or (set words (byte / 64) word) (b / 64) 0) (b % 64) ≡ has_bit word (b % 64) =
        ap (λ i. has_bit (get_or (set words (byte / 64) word) i 0) (b % 64)) same
        ∙ ap (λ n. has_bit n (b % 64)) (get_or-set_same words (byte / 64) word 0 inside) in
        changed ∙ each (b % 64) low ∙ ap (λ i. join (has_bit (get_or words i 0) (b % 64)) (b % 64 == byte % 64)) (sym same)
        ∙ ap (λ t. join (has_bit (get_or words (b / 64) 0) (b % 64)) t) (same_bits b byte same)
    go false e =
        let other : b / 64 ≢ byte / 64 = grind (arith, nat_tests) in
        let apart : b ≢ byte = omega arith in
        let test : (b == byte) ≡ false = grind (arith, nat_tests) in
        ap (λ n. has_bit n (b % 64)) (get_or-set_other words (byte / 64) (b / 64) word 0 other)
        ∙ sym (ap (λ t. join (has_bit (get_or words (b / 64) 0) (b % 64)) t) test ∙ stays (has_bit (get_or words (b / 64) 0) (b % 64)))

-- Words joined bit by bit are sets joined byte by byte.
pub bytes_joined : (left right words : List ℕ) (join : Bool → Bool → Bool)
    → ((i : ℕ) → i < 4 → (k : ℕ) → k < 64
    → has_bit (get_or words i 0) k ≡ join (has_bit (get_or left i 0) k) (has_bit (get_or right i 0) k))
    → (b : ℕ) → b < 256 → has_byte words b ≡ join (has_byte left b) (has_byte right b)
bytes_joined left right words join each b below =
    let place : b / 64 < 4 = omega arith in
    let low : b % 64 < 64 = omega arith in
    byte_is words b ∙ each (b / 64) place (b % 64) low ∙ sym (rw (byte_is left b, byte_is right b) refl)

-- one word more: what holds of each word below i, and of the new one at i, holds of each below i + 1
pub words_more : (P : ℕ → ℕ → Type 0) (words : List ℕ) (i word : ℕ) → i < length words → ((k : ℕ) → k < i → P k (get_or words k 0))
    → P i word → (k : ℕ) → k < i + 1 → P k (get_or (set words i word) k 0)
words_more P words i word inside before here k below = go (nat_lt k i) refl
  where
    go : (t : Bool) → nat_lt k i ≡ t → P k (get_or (set words i word) k 0)
    go true e =
        let less : k < i = grind (arith, nat_tests) in
        let other : k ≢ i = omega arith in
        subst (P k) (sym (get_or-set_other words i k word 0 other)) (before k less)
    go false e =
        let from : i ≤ k = grind (arith, nat_tests) in
        let same : i ≡ k = omega arith in
        subst (λ n. P n (get_or (set words i word) n 0)) same (subst (P i) (sym (get_or-set_same words i word 0 inside)) here)

zeros : (n i : ℕ) → ◌≡◌ {A = ℕ} (get_or (replicate n 0) i 0) 0
zeros zero i = refl
zeros (suc n) zero = refl
zeros (suc n) (suc i) = zeros n i

pub no_bytes : (b : ℕ) → has_byte (replicate 4 0) b ≡ false
no_bytes b = byte_is (replicate 4 0) b ∙ ap (λ n. has_bit n (b % 64)) (zeros 4 (b / 64)) ∙ has_zero (b % 64)

-- the truth values of words
pub length-values_of : (words : List ℕ) → length (values_of words) ≡ 256
unfolding values_of
length-values_of words = length-map-range_with_len (has_byte words) 0 256

pub IsByteSet-values_of : (words : List ℕ) → AreLineBytes words → IsByteSet (values_of words)
IsByteSet-values_of words h = record {
  whole = length-values_of words;
  line_bytes = λ b below holds. left_of (is_line_byte b) (has_byte words b) (sym (get_or-values_of words b below ∙ h.line_bytes b below) ∙ holds);
}

pub has-values_of : (words : List ℕ) → AreLineBytes words → (b : ℕ) → b < 256 → has (values_of words) b ≡ has_byte words b
has-values_of words h b below = sym (get_or-has (values_of words) (IsByteSet-values_of words h) b below) ∙ get_or-values_of words b below

-- words whose bytes are those of a test
pub values_all : (words : List ℕ) (test : ℕ → Bool) → ((b : ℕ) → b < 256 → has_byte words b ≡ (is_line_byte b && test b)) → values_of words ≡ set_of test
values_all words test each = set_of_all test (values_of words) (length-values_of words) (λ b below. get_or-values_of words b below ∙ each b below)

-- four words whose bytes are all line bytes
pub are_line_bytes : (words : List ℕ) (test : ℕ → Bool) → length words ≡ 4 → ((i : ℕ) → get_or words i 0 < 2 ^ 64)
    → ((b : ℕ) → b < 256 → has_byte words b ≡ (is_line_byte b && test b)) → AreLineBytes words
are_line_bytes words test whole small each = record {
  whole = whole;
  small = small;
  line_bytes = λ b below. each b below ∙ twice (is_line_byte b) (test b) ∙ ap (λ t. is_line_byte b && t) (sym (each b below));
}
  where
    twice : (l t : Bool) → (l && t) ≡ (l && (l && t))
    twice true t = refl
    twice false t = refl

pub AreLineBytes-none : AreLineBytes (replicate 4 0)
AreLineBytes-none =
    are_line_bytes (replicate 4 0) (λ _. false) refl (λ i. let none = zeros 4 i in omega arith)
    (λ b below. no_bytes b ∙ sym (and-false (is_line_byte b)))

pub values_of_none : values_of (replicate 4 0) ≡ empty_set
values_of_none = values_all (replicate 4 0) (λ _. false) (λ b below. no_bytes b ∙ sym (and-false (is_line_byte b)))

either_lines : (l x y : Bool) → x ≡ (l && x) → y ≡ (l && y) → (x || y) ≡ (l && (x || y))
either_lines true x y p q = refl
either_lines false x y p q = rw (p, q) refl

-- the bytes of words made from two sets, in terms of the sets
pub either_is : (left right words : List ℕ) → AreLineBytes left → AreLineBytes right
    → ((b : ℕ) → b < 256 → has_byte words b ≡ (has_byte left b || has_byte right b))
    → (b : ℕ) → b < 256 → has_byte words b ≡ (is_line_byte b && (has (values_of left) b || has (values_of right) b))
either_is left right words one other each b below =
    each b below ∙ either_lines (is_line_byte b) (has_byte left b) (has_byte right b) (one.line_bytes b below) (other.line_bytes b below)
    ∙ ap (λ t. is_line_byte b && (t || has_byte right b)) (sym (has-values_of left one b below))
    ∙ ap (λ t. is_line_byte b && (has (values_of left) b || t)) (sym (has-values_of right other b below))

but_lines : (x p q : Bool) → ((not x && p) && q) ≡ ((p && q) && not x)
but_lines true true true = refl
but_lines true true false = refl
but_lines true false q = refl
but_lines false true true = refl
but_lines false true false = refl
but_lines false false q = refl

pub but_is : (others words : List ℕ) → AreLineBytes others
    → ((b : ℕ) → b < 256 → has_byte words b ≡ ((not (has_byte others b) && not (b == 0)) && not (b == 10)))
    → (b : ℕ) → b < 256 → has_byte words b ≡ (is_line_byte b && not (has (values_of others) b))
but_is others words h each b below =
    let low : nat_lt b 256 ≡ true = grind (arith, nat_tests) in
    each b below ∙ but_lines (has_byte others b) (not (b == 0)) (not (b == 10))
    ∙ sym (ap (λ t. (t && (not (b == 0) && not (b == 10))) && not (has_byte others b)) low)
    ∙ ap (λ t. is_line_byte b && not t) (sym (has-values_of others h b below))

with_lines : (l x t : Bool) → x ≡ (l && x) → (IsTrue t → IsTrue l) → (x || t) ≡ (l && (x || t))
with_lines true x t p h = refl
with_lines false x true p h = absurd (false_is (h refl))
  where
    false_is : IsTrue false → ⊥
    false_is e = cc
with_lines false x false p h = rw p refl

pub with_is : (old words : List ℕ) (byte : ℕ) → AreLineBytes old → IsTrue (is_line_byte byte) → ((b : ℕ) → has_byte words b ≡ (has_byte old b || b == byte))
    → (b : ℕ) → b < 256 → has_byte words b ≡ (is_line_byte b && (has (values_of old) b || b == byte))
with_is old words byte h line each b below =
    each b ∙ with_lines (is_line_byte b) (has_byte old b) (b == byte) (h.line_bytes b below) is_line
    ∙ ap (λ t. is_line_byte b && (t || b == byte)) (sym (has-values_of old h b below))
  where
    is_line : IsTrue (b == byte) → IsTrue (is_line_byte b)
    is_line e = let same : byte ≡ b = grind (arith, nat_tests) in subst (λ n. IsTrue (is_line_byte n)) same line

-- How many bytes the words have.
count_of_ones : (bits : List Bool) → count_ones (mask_l bits) ≡ count_by (λ held. held) bits
unfolding ones
count_of_ones [] = refl
count_of_ones (bit ∷ bits) = omega (arith, ones-mask_l_cons bit bits, count_of_ones bits, sum_by-append (λ held. cond held 1 0) (bit ∷ []) bits)

values_split : (test : ℕ → Bool) (first m n : ℕ)
    → map test (range_with_len first (m + n)) ≡ map test (range_with_len first m) ++ map test (range_with_len (first + m) n)
values_split test first m zero = let none : m + 0 ≡ m = omega arith in rw none (sym (append-nil (map test (range_with_len first m))))
values_split test first m (suc n) =
    let longer : m + suc n ≡ m + n + 1 = omega arith in
    let next : n + 1 ≡ suc n = omega arith in
    ap (λ k. map test (range_with_len first k)) longer ∙ map-range_with_len_more test first (m + n) (first + m + n) (omega arith)
    ∙ ap (λ xs. xs ++ test (first + m + n) ∷ []) (values_split test first m n)
    ∙ append_assoc (map test (range_with_len first m)) (map test (range_with_len (first + m) n)) (test (first + m + n) ∷ [])
    ∙ ap (λ xs. map test (range_with_len first m) ++ xs)
    (sym (map-range_with_len_more test (first + m) n (first + m + n) refl) ∙ ap (λ k. map test (range_with_len (first + m) k)) next)

-- how many bytes the words before one have
abbrev pub count_before : List ℕ → ℕ → ℕ
count_before words i = count_by (λ held. held) (map (has_byte words) (range_with_len 0 (i * 64)))

pub count_more : (words : List ℕ) (i : ℕ) → AreLineBytes words → i < 4 → count_before words (i + 1) ≡ count_before words i + count_ones (get_or words i 0)
count_more words i h inside =
    let longer : (i + 1) * 64 ≡ i * 64 + 64 = omega arith in
    let start : 0 + i * 64 ≡ i * 64 = omega arith in
    let ones : count_ones (get_or words i 0) ≡ count_by (λ held. held) (map (has_byte words) (range_with_len (0 + i * 64) 64)) =
    ap count_ones
    (sym (word_from (has_byte words) (get_or words i 0) (0 + i * 64) (h.small i)
    (λ k low. ap (λ n. has_byte words (n + k)) start ∙ byte_in words i k low)))
    ∙ count_of_ones (map (has_byte words) (range_with_len (0 + i * 64) 64)) in
    ap (λ n. count_by (λ held. held) (map (has_byte words) (range_with_len 0 n))) longer
    ∙ ap (λ xs. count_by (λ held. held) xs) (values_split (has_byte words) 0 (i * 64) 64)
    ∙ sum_by-append (λ held. cond held 1 0) (map (has_byte words) (range_with_len 0 (i * 64)))
    (map (has_byte words) (range_with_len (0 + i * 64) 64)) ∙ ap (λ n. count_before words i + n) (sym ones)

pub count_all : (words : List ℕ) → count_before words 4 ≡ size_of (values_of words)
unfolding values_of
count_all words = refl

pub count_few : (words : List ℕ) (i : ℕ) → count_before words i ≤ i * 64
count_few words i =
    omega (
      arith,
      count_by-le-length (λ held. held) (map (has_byte words) (range_with_len 0 (i * 64))),
      length-map-range_with_len (has_byte words) 0 (i * 64),
    )

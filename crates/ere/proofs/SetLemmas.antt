-- Sets made from a test, and 256 truth values as such a set.
use Rattle.std.proofs.Common.{◌≡◌, ℕ, ◌+◌, ◌<◌, ◌≤◌, Bool, true, false, not, ◌&&◌, ◌||◌, ◌==◌, nat_lt, IsTrue, List, length, get_or, set}
use Rattle.std.proofs.Common.{refl, sym, ◌∙◌, arith, ap, map}
use Rattle.std.proofs.lemmas.List.FromFn.{get_or-map-range_with_len, fill_by_all}
use Rattle.std.specs.List.{range_with_len}
use Rattle.std.proofs.lemmas.Bool.Decides.{nat_tests}
use Rattle.std.proofs.Math.Bool.{and-false}
use mathlib.Core.Path.{fun_ext}
use Rattle.ere.specs.ByteSet.{is_line_byte, has, set_of, empty_set, all_line_bytes, single, with_byte, complement}

-- the truth values of a set of line bytes
pub record IsByteSet (set : List Bool) : Type 0 where
  pub whole : length set ≡ 256
  pub line_bytes : (b : ℕ) → b < 256 → IsTrue (get_or set b false) → IsTrue (is_line_byte b)

pub get_or-set_of : (test : ℕ → Bool) (b : ℕ) → b < 256 → get_or (set_of test) b false ≡ (is_line_byte b && test b)
unfolding set_of
get_or-set_of test b h = get_or-map-range_with_len (λ k. is_line_byte k && test k) 0 256 b b false h (omega arith)

-- 256 truth values that agree with a test on line bytes, and are false elsewhere, are the set of the test.
pub set_of_all : (test : ℕ → Bool) (set : List Bool) → length set ≡ 256
    → ((b : ℕ) → b < 256 → get_or set b false ≡ (is_line_byte b && test b)) → set ≡ set_of test
unfolding set_of
set_of_all test set whole each = fill_by_all (λ b. is_line_byte b && test b) set 256 false whole each

and_twice : (a b : Bool) → (a && (a && b)) ≡ (a && b)
and_twice true b = refl
and_twice false b = refl

pub left_of : (a b : Bool) → IsTrue (a && b) → IsTrue a
left_of true b h = refl
left_of false b h = h

-- whether a byte is in a set made from a test
pub has-set_of : (test : ℕ → Bool) (b : ℕ) → has (set_of test) b ≡ (is_line_byte b && test b)
has-set_of test b = go (nat_lt b 256) refl
  where
    go : (t : Bool) → nat_lt b 256 ≡ t → has (set_of test) b ≡ (is_line_byte b && test b)
    go true e = let below : b < 256 = grind (arith, nat_tests) in rw (get_or-set_of test b below) (and_twice (is_line_byte b) (test b))
    go false e = rw e refl

-- If m implies l, m is the same as l and m.
and_absorbs : (l m : Bool) → (IsTrue m → IsTrue l) → m ≡ (l && m)
and_absorbs true m h = refl
and_absorbs false true h = sym (h refl)
and_absorbs false false h = refl

-- truth values that hold only at line bytes
pub get_or-has : (set : List Bool) → IsByteSet set → (b : ℕ) → b < 256 → get_or set b false ≡ has set b
get_or-has set h b below = and_absorbs (is_line_byte b) (get_or set b false) (h.line_bytes b below)

-- Two tests that agree on line bytes make the same set.
pub set_of-ext : (p q : ℕ → Bool) → ((b : ℕ) → (is_line_byte b && p b) ≡ (is_line_byte b && q b)) → set_of p ≡ set_of q
unfolding set_of
set_of-ext p q h = ap (λ f. map f (range_with_len 0 256)) (fun_ext h)

-- The set of a test, a byte at a time.
none_pass : (l x y : Bool) → x ≡ false → (l && false) ≡ (l && (x && y))
none_pass l x y e = rw e refl

pub of_none : (passes : ℕ → Bool) → empty_set ≡ set_of (λ b. nat_lt b 0 && passes b)
of_none passes = set_of-ext (λ _. false) (λ b. nat_lt b 0 && passes b) (λ b. none_pass (is_line_byte b) (nat_lt b 0) (passes b) (grind (arith, nat_tests)))

joined : (l x t y : Bool) → (t ≡ true → y ≡ true) → (t ≡ false → y ≡ x) → (l && ((l && x) || t)) ≡ (l && y)
joined false x t y p q = refl
joined true true true y p q = sym (p refl)
joined true false true y p q = sym (p refl)
joined true true false y p q = sym (q refl)
joined true false false y p q = sym (q refl)

later : (b i : ℕ) → (b == i) ≡ false → nat_lt b (i + 1) ≡ nat_lt b i
later b i e = grind (arith, nat_tests)

pub of_more : (passes : ℕ → Bool) (set : List Bool) (i : ℕ) → passes i ≡ true → set ≡ set_of (λ b. nat_lt b i && passes b)
    → with_byte set i ≡ set_of (λ b. nat_lt b (i + 1) && passes b)
of_more passes set i held so_far =
    set_of-ext (λ b. has set b || b == i) (λ b. nat_lt b (i + 1) && passes b) (λ b.
    ap (λ t. is_line_byte b && (t || b == i)) (ap (λ s. has s b) so_far ∙ has-set_of (λ b. nat_lt b i && passes b) b)
    ∙ joined (is_line_byte b) (nat_lt b i && passes b) (b == i) (nat_lt b (i + 1) && passes b) (here b)
    (λ e. ap (λ t. t && passes b) (later b i e)))
  where
    here : (b : ℕ) → (b == i) ≡ true → (nat_lt b (i + 1) && passes b) ≡ true
    here b e =
        let same : i ≡ b = grind (arith, nat_tests) in
        let below : nat_lt b (i + 1) ≡ true = grind (arith, nat_tests) in
        ap (λ t. t && passes b) below ∙ ap passes (sym same) ∙ held

skipped : (l x y : Bool) → (l && y) ≡ false → x ≡ false → (l && x) ≡ (l && y)
skipped true x y p q = q ∙ sym p
skipped false x y p q = refl

pub of_same : (passes : ℕ → Bool) (set : List Bool) (i : ℕ) → (is_line_byte i && passes i) ≡ false
    → set ≡ set_of (λ b. nat_lt b i && passes b) → set ≡ set_of (λ b. nat_lt b (i + 1) && passes b)
of_same passes set i none so_far = so_far ∙ set_of-ext (λ b. nat_lt b i && passes b) (λ b. nat_lt b (i + 1) && passes b) (λ b. go b (b == i) refl)
  where
    go : (b : ℕ) (t : Bool) → (b == i) ≡ t → (is_line_byte b && (nat_lt b i && passes b)) ≡ (is_line_byte b && (nat_lt b (i + 1) && passes b))
    go b true e =
        let same : i ≡ b = grind (arith, nat_tests) in
        let below : nat_lt b (i + 1) ≡ true = grind (arith, nat_tests) in
        let past : nat_lt b i ≡ false = grind (arith, nat_tests) in
        skipped (is_line_byte b) (nat_lt b i && passes b) (nat_lt b (i + 1) && passes b)
        (ap (λ t. is_line_byte b && (t && passes b)) below ∙ ap (λ n. is_line_byte n && passes n) (sym same) ∙ none)
        (ap (λ t. t && passes b) past)
    go b false e = ap (λ t. is_line_byte b && (t && passes b)) (sym (later b i e))

pub of_all : (passes : ℕ → Bool) (set : List Bool) (i : ℕ) → 256 ≤ i → set ≡ set_of (λ b. nat_lt b i && passes b) → set ≡ set_of passes
of_all passes set i all so_far = so_far ∙ set_of-ext (λ b. nat_lt b i && passes b) passes (λ b. go b (nat_lt b 256) refl)
  where
    go : (b : ℕ) (t : Bool) → nat_lt b 256 ≡ t → (is_line_byte b && (nat_lt b i && passes b)) ≡ (is_line_byte b && passes b)
    go b true e = let below : nat_lt b i ≡ true = grind (arith, nat_tests) in ap (λ t. is_line_byte b && (t && passes b)) below
    go b false e = rw e refl

-- The set of one byte.
pub single_in : (byte : ℕ) → with_byte empty_set byte ≡ single byte
single_in byte =
    set_of-ext (λ b. has empty_set b || b == byte) (λ b. b == byte)
    (λ b. ap (λ t. is_line_byte b && (t || b == byte)) (has-set_of (λ _. false) b ∙ and-false (is_line_byte b)))

pub single_out : (byte : ℕ) → is_line_byte byte ≡ false → empty_set ≡ single byte
single_out byte none = set_of-ext (λ _. false) (λ b. b == byte) (λ b. go b (b == byte) refl)
  where
    go : (b : ℕ) (t : Bool) → (b == byte) ≡ t → (is_line_byte b && false) ≡ (is_line_byte b && (b == byte))
    go b true e =
        let same : byte ≡ b = grind (arith, nat_tests) in
        let out : is_line_byte b ≡ false = ap is_line_byte (sym same) ∙ none in
        and-false (is_line_byte b) ∙ sym (ap (λ t. t && (b == byte)) out)
    go b false e = ap (λ t. is_line_byte b && t) (sym e)

pub all_in : complement empty_set ≡ all_line_bytes
all_in = set_of-ext (λ b. not (has empty_set b)) (λ _. true) (λ b. ap (λ t. is_line_byte b && not t) (has-set_of (λ _. false) b ∙ and-false (is_line_byte b)))

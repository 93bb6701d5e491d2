-- The ranges of a set.
use Rattle.std.proofs.Common.{◌≡◌, ℕ, ◌+◌, ◌<◌, ◌≤◌, ◌⊎◌, inl, inr, Bool, true, false, List, [], ◌∷◌, ◌++◌, ◌&&◌, ◌||◌, ◌==◌, nat_lt, refl, sym, ap, ◌∙◌, arith}
use Rattle.std.proofs.lemmas.Bool.{cases_lt}
use Rattle.std.proofs.lemmas.Bool.Decides.{nat_tests}
use Rattle.std.proofs.Math.Bool.{and-false}
use Rattle.regex_class.specs.Ranges.{in_range, in_ranges, IsCanonical, HasExactly}
use Rattle.regex_class.proofs.RangesLemmas.{in_ranges-nil, in_ranges-push, in_ranges-above_max, or-false}
use Rattle.ere.specs.ByteSet.{has}

pub ranges_start : (set : List Bool) (ranges : List (ℕ × ℕ)) → ranges ≡ [] → (b : ℕ) → in_ranges ranges b ≡ (nat_lt b 0 && has set b)
ranges_start set ranges e b = let none : nat_lt b 0 ≡ false = grind (arith, nat_tests) in rw (e, none) (in_ranges-nil b)

one_range : (i b : ℕ) → in_range (i, i) b ≡ (b == i)
unfolding in_range
one_range i b = grind (arith, nat_tests)

pub ranges_more : (set : List Bool) (ranges : List (ℕ × ℕ)) (i : ℕ) → has set i ≡ true
    → ((b : ℕ) → in_ranges ranges b ≡ (nat_lt b i && has set b)) → (b : ℕ)
    → in_ranges (ranges ++ (i, i) ∷ []) b ≡ (nat_lt b (i + 1) && has set b)
ranges_more set ranges i held so_far b =
    in_ranges-push ranges (i, i) b
    ∙ (ap (λ t. t || in_range (i, i) b) (so_far b) ∙ (ap (λ t. (nat_lt b i && has set b) || t) (one_range i b) ∙ go (b == i) refl))
  where
    go : (t : Bool) → (b == i) ≡ t → ((nat_lt b i && has set b) || t) ≡ (nat_lt b (i + 1) && has set b)
    go true e =
        let same : b ≡ i = grind (arith, nat_tests) in
        let low : nat_lt i i ≡ false = grind (arith, nat_tests) in
        let high : nat_lt i (i + 1) ≡ true = grind (arith, nat_tests) in
        rw (same, held, low, high) refl
    go false e =
        let less : nat_lt b (i + 1) ≡ nat_lt b i = grind (arith, nat_tests) in
        rw less (or-false (nat_lt b i && has set b))

pub ranges_same : (set : List Bool) (ranges : List (ℕ × ℕ)) (i : ℕ) → has set i ≡ false
    → ((b : ℕ) → in_ranges ranges b ≡ (nat_lt b i && has set b)) → (b : ℕ) → in_ranges ranges b ≡ (nat_lt b (i + 1) && has set b)
ranges_same set ranges i none so_far b = so_far b ∙ go (b == i) refl
  where
    go : (t : Bool) → (b == i) ≡ t → (nat_lt b i && has set b) ≡ (nat_lt b (i + 1) && has set b)
    go true e =
        let same : b ≡ i = grind (arith, nat_tests) in
        let low : nat_lt i i ≡ false = grind (arith, nat_tests) in
        rw (same, none, low) (sym (and-false (nat_lt i (i + 1))))
    go false e =
        let less : nat_lt b (i + 1) ≡ nat_lt b i = grind (arith, nat_tests) in
        rw less refl

-- no byte is above 255
pub ranges_all : (set : List Bool) (ranges class : List (ℕ × ℕ)) (i : ℕ) → 256 ≤ i
    → ((b : ℕ) → in_ranges ranges b ≡ (nat_lt b i && has set b)) → IsCanonical class → HasExactly class (in_ranges ranges) → (b : ℕ)
    → in_ranges class b ≡ has set b
ranges_all set ranges class i all so_far canonical same b = elim (cases_lt 0x10_FFFF b) [
  | inl above ↦ in_ranges-above_max class b canonical above ∙ sym (no_byte b (omega arith))
  | inr within ↦ same b within ∙ (so_far b ∙ low b (cases_lt b 256))
]
  where
    no_byte : (b : ℕ) → 256 ≤ b → has set b ≡ false
    no_byte b high = let t : nat_lt b 256 ≡ false = grind (arith, nat_tests) in rw t refl

    low : (b : ℕ) → (b < 256) ⊎ (256 ≤ b) → (nat_lt b i && has set b) ≡ has set b
    low b (inl below) = let t : nat_lt b i ≡ true = grind (arith, nat_tests) in rw t refl
    low b (inr high) = rw (no_byte b high) (and-false (nat_lt b i))

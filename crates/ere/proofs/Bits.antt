-- Single bits of words.
use Rattle.std.proofs.Common.{◌≡◌, ◌≢◌, ℕ, zero, suc, ◌-◌, ◌*◌, ◌/◌, ◌%◌, ◌^◌, ◌<◌, max, min, Bool, true, false, not, ◌&&◌, ◌||◌, ◌==◌}
use Rattle.std.proofs.Common.{refl, sym, ap, ◌∙◌, arith, w64}
use Rattle.std.proofs.lemmas.Bool.Decides.{nat_tests}
use Rattle.std.proofs.lemmas.Nat.Bits.{bit_at-lt, bit_at_and, bit_at_or, bit_at-zero, shr_and_one, bit_at_not, bit_at_set_same, bit_at_set_other}
use Rattle.std.specs.Prelude.{bit_and, bit_or}
use Rattle.std.specs.Int.{bit_at, bit_not}
use Rattle.std.proofs.Math.Bool.{and_comm}
use Rattle.ere.specs.Bits.{has_bit}

-- tests of numbers below 2
max_is_or : (x y : ℕ) → x < 2 → y < 2 → (max x y == 1) ≡ ((x == 1) || (y == 1))
max_is_or zero zero p q = refl
max_is_or zero (suc zero) p q = refl
max_is_or (suc zero) zero p q = refl
max_is_or (suc zero) (suc zero) p q = refl
max_is_or (suc (suc x)) y p q = absurd (omega arith)
max_is_or x (suc (suc y)) p q = absurd (omega arith)

min_is_and : (x y : ℕ) → x < 2 → y < 2 → (min x y == 1) ≡ ((x == 1) && (y == 1))
min_is_and zero zero p q = refl
min_is_and zero (suc zero) p q = refl
min_is_and (suc zero) zero p q = refl
min_is_and (suc zero) (suc zero) p q = refl
min_is_and (suc (suc x)) y p q = absurd (omega arith)
min_is_and x (suc (suc y)) p q = absurd (omega arith)

less_is_not : (x : ℕ) → x < 2 → ((1 - x) == 1) ≡ not (x == 1)
less_is_not zero p = refl
less_is_not (suc zero) p = refl
less_is_not (suc (suc x)) p = absurd (omega arith)

pub has_or : (a b i : ℕ) → has_bit (bit_or a b) i ≡ (has_bit a i || has_bit b i)
has_or a b i = ap (λ n. n == 1) (bit_at_or a b i) ∙ max_is_or (bit_at a i) (bit_at b i) (bit_at-lt a i) (bit_at-lt b i)

pub has_and : (a b i : ℕ) → has_bit (bit_and a b) i ≡ (has_bit a i && has_bit b i)
has_and a b i = ap (λ n. n == 1) (bit_at_and a b i) ∙ min_is_and (bit_at a i) (bit_at b i) (bit_at-lt a i) (bit_at-lt b i)

pub has_not : (a i : ℕ) → a < 2 ^ 64 → i < 64 → has_bit (bit_not w64 a) i ≡ not (has_bit a i)
has_not a i small inside = ap (λ n. n == 1) (bit_at_not w64 a i small inside) ∙ less_is_not (bit_at a i) (bit_at-lt a i)

pub has_zero : (i : ℕ) → has_bit 0 i ≡ false
has_zero i = ap (λ n. n == 1) (bit_at-zero i)

-- `word >> bit & 1 == 1`
pub tests_bit : (word bit : ℕ) → (bit_and (word / 2 ^ bit) 1 == 1) ≡ has_bit word bit
tests_bit word bit = ap (λ n. n == 1) (shr_and_one word bit)

-- `1 << bit`
pub has_one_bit : (bit b : ℕ) → bit < 64 → has_bit (1 * 2 ^ bit % 2 ^ 64) b ≡ (b == bit)
has_one_bit bit b inside =
    sym (or_zero (has_bit (1 * 2 ^ bit % 2 ^ 64) b)) ∙ ap (λ t. t || has_bit (1 * 2 ^ bit % 2 ^ 64) b) (sym (has_zero b))
    ∙ sym (has_or 0 (1 * 2 ^ bit % 2 ^ 64) b) ∙ go (b == bit) refl
  where
    or_zero : (t : Bool) → (false || t) ≡ t
    or_zero t = refl

    go : (t : Bool) → (b == bit) ≡ t → has_bit (bit_or 0 (1 * 2 ^ bit % 2 ^ 64)) b ≡ (b == bit)
    go true e = let same : b ≡ bit = grind (arith, nat_tests) in rw (e, same) (ap (λ n. n == 1) (bit_at_set_same w64 0 bit inside))
    go false e = let other : b ≢ bit = grind (arith, nat_tests) in rw e (ap (λ n. n == 1) (bit_at_set_other w64 0 bit inside b other) ∙ has_zero b)

pub has_with : (word bit b : ℕ) → bit < 64 → has_bit (bit_or word (1 * 2 ^ bit % 2 ^ 64)) b ≡ (has_bit word b || b == bit)
has_with word bit b inside = has_or word (1 * 2 ^ bit % 2 ^ 64) b ∙ ap (λ t. has_bit word b || t) (has_one_bit bit b inside)

pub has_only : (word bit b : ℕ) → bit < 64 → has_bit (bit_and word (1 * 2 ^ bit % 2 ^ 64)) b ≡ (b == bit && has_bit word b)
has_only word bit b inside =
    has_and word (1 * 2 ^ bit % 2 ^ 64) b ∙ ap (λ t. has_bit word b && t) (has_one_bit bit b inside) ∙ and_comm (has_bit word b) (b == bit)

pub has_without : (word other b : ℕ) → other < 2 ^ 64 → b < 64 → has_bit (bit_and word (bit_not w64 other)) b ≡ (has_bit word b && not (has_bit other b))
has_without word other b small inside = has_and word (bit_not w64 other) b ∙ ap (λ t. has_bit word b && t) (has_not other b small inside)

-- `word & !(1 << bit)`
pub has_cleared : (word bit b : ℕ) → bit < 64 → b < 64 → has_bit (bit_and word (bit_not w64 (1 * 2 ^ bit % 2 ^ 64))) b ≡ (has_bit word b && not (b == bit))
has_cleared word bit b inside within =
    has_without word (1 * 2 ^ bit % 2 ^ 64) b (omega arith) within ∙ ap (λ t. has_bit word b && not t) (has_one_bit bit b inside)

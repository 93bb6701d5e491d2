-- The carries of a sum are the places to which the bits of a word lead over bits that pass.
use Rattle.std.proofs.Common.{◌≡◌, ℕ, zero, suc, ◌+◌, ◌*◌, ◌/◌, ◌%◌, ◌^◌, ◌<◌, min, ◌&&◌, ◌||◌, ◌==◌, refl, sym, ap, ◌∙◌, arith}
use Rattle.std.proofs.lemmas.Nat.Bits.{bit_at-lt, bit_at-suc, bit_at_lowest, bit_at_and, bit_at_xor, bit_at_cat_low}
use Rattle.std.specs.Prelude.{bit_and, bit_or, bit_xor}
use Rattle.std.specs.Int.{bit_at}
use Rattle.ere.specs.Bits.{has_bit}
use Rattle.matcher.specs.Private.Moving.{comes, flood}
use Rattle.ere.proofs.Bits.{has_or}

-- what is carried into place k of the sum a + b + carried
abbrev carry : ℕ → ℕ → ℕ → ℕ → ℕ
carry a b carried zero = carried
carry a b carried (suc k) = carry (a / 2) (b / 2) ((a % 2 + b % 2 + carried) / 2) k

sum_bit : (a b carried k : ℕ) → bit_at (a + b + carried) k ≡ (bit_at a k + bit_at b k + carry a b carried k) % 2
sum_bit a b carried zero = bit_at_lowest (a + b + carried) ∙ lowest ∙ ap (λ n. (n + bit_at b 0 + carried) % 2) (sym (bit_at_lowest a)) ∙ refl
  where
    lowest : (a + b + carried) % 2 ≡ (a % 2 + bit_at b 0 + carried) % 2
    lowest = let b_is : bit_at b 0 ≡ b % 2 = bit_at_lowest b in omega (arith, b_is)
sum_bit a b carried (suc k) =
    let half : (a + b + carried) / 2 ≡ a / 2 + b / 2 + (a % 2 + b % 2 + carried) / 2 = omega arith in
    bit_at-suc (a + b + carried) k ∙ ap (λ n. bit_at n k) half ∙ sum_bit (a / 2) (b / 2) ((a % 2 + b % 2 + carried) / 2) k
    ∙ ap (λ n. (n + bit_at (b / 2) k + carry (a / 2) (b / 2) ((a % 2 + b % 2 + carried) / 2) k) % 2) (sym (bit_at-suc a k))
    ∙ ap (λ n. (bit_at a (suc k) + n + carry (a / 2) (b / 2) ((a % 2 + b % 2 + carried) / 2) k) % 2) (sym (bit_at-suc b k))

-- what is carried into a place, by the bits and the carry of the place below
carry_next : (a b carried k : ℕ) → carry a b carried (suc k) ≡ (bit_at a k + bit_at b k + carry a b carried k) / 2
carry_next a b carried zero = ap (λ n. (n + b % 2 + carried) / 2) (sym (bit_at_lowest a)) ∙ ap (λ n. (bit_at a 0 + n + carried) / 2) (sym (bit_at_lowest b))
carry_next a b carried (suc k) =
    carry_next (a / 2) (b / 2) ((a % 2 + b % 2 + carried) / 2) k
    ∙ ap (λ n. (n + bit_at (b / 2) k + carry (a / 2) (b / 2) ((a % 2 + b % 2 + carried) / 2) k) / 2) (sym (bit_at-suc a k))
    ∙ ap (λ n. (bit_at a (suc k) + n + carry (a / 2) (b / 2) ((a % 2 + b % 2 + carried) / 2) k) / 2) (sym (bit_at-suc b k))

-- what is carried on from one place, by the word's bit, whether it passes, and what is carried there
next_place : (w p c : ℕ) → w < 2 → p < 2 → c < 2 → ((min w p + p + c) / 2 < 2) × (((min w p + p + c) / 2 == 1) ≡ (((w == 1) || (c == 1)) && (p == 1)))
next_place zero zero zero x y z = (omega arith, refl)
next_place zero zero (suc zero) x y z = (omega arith, refl)
next_place zero (suc zero) zero x y z = (omega arith, refl)
next_place zero (suc zero) (suc zero) x y z = (omega arith, refl)
next_place (suc zero) zero zero x y z = (omega arith, refl)
next_place (suc zero) zero (suc zero) x y z = (omega arith, refl)
next_place (suc zero) (suc zero) zero x y z = (omega arith, refl)
next_place (suc zero) (suc zero) (suc zero) x y z = (omega arith, refl)
next_place (suc (suc w)) p c x y z = absurd (omega arith)
next_place w (suc (suc p)) c x y z = absurd (omega arith)
next_place w p (suc (suc c)) x y z = absurd (omega arith)

this_place : (w p c : ℕ) → w < 2 → p < 2 → c < 2 → ((w == 1) || (((min w p + p + c) % 2 + p) % 2 == 1)) ≡ ((w == 1) || (c == 1))
this_place zero zero zero x y z = refl
this_place zero zero (suc zero) x y z = refl
this_place zero (suc zero) zero x y z = refl
this_place zero (suc zero) (suc zero) x y z = refl
this_place (suc zero) p c x y z = refl
this_place (suc (suc w)) p c x y z = absurd (omega arith)
this_place zero (suc (suc p)) c x y z = absurd (omega arith)
this_place zero p (suc (suc c)) x y z = absurd (omega arith)

carry_comes : (word passing k : ℕ)
    → (carry (bit_and word passing) passing 0 k < 2)
    × ((carry (bit_and word passing) passing 0 k == 1) ≡ comes (has_bit word) (has_bit passing) k)
carry_comes word passing zero = (omega arith, refl)
carry_comes word passing (suc k) =
    let before = carry_comes word passing k in
    let place = next_place (bit_at word k) (bit_at passing k) (carry (bit_and word passing) passing 0 k) (bit_at-lt word k) (bit_at-lt passing k) before.0 in
    let next : carry (bit_and word passing) passing 0 (suc k)
    ≡ (min (bit_at word k) (bit_at passing k) + bit_at passing k + carry (bit_and word passing) passing 0 k) / 2 =
    carry_next (bit_and word passing) passing 0 k
    ∙ ap (λ n. (n + bit_at passing k + carry (bit_and word passing) passing 0 k) / 2) (bit_at_and word passing k) in
    (omega (arith, next, place.0), ap (λ n. n == 1) next ∙ place.1 ∙ ap (λ t. (has_bit word k || t) && has_bit passing k) before.1)

low_bits : (n b : ℕ) → b < 64 → bit_at (n % 2 ^ 64) b ≡ bit_at n b
low_bits n b inside =
    let split : n ≡ n / 2 ^ 64 * 2 ^ 64 + n % 2 ^ 64 = omega arith in
    sym (bit_at_cat_low (n / 2 ^ 64) 64 (n % 2 ^ 64) b inside) ∙ ap (λ m. bit_at m b) (sym split)

pub has_flooded : (word passing b : ℕ) → b < 64
    → has_bit (bit_or word (bit_xor ((bit_and word passing + passing) % 2 ^ 64) passing)) b ≡ flood (has_bit word) (has_bit passing) b
has_flooded word passing b inside =
    let carried = carry_comes word passing b in
    let sum : bit_at ((bit_and word passing + passing) % 2 ^ 64) b
    ≡ (min (bit_at word b) (bit_at passing b) + bit_at passing b + carry (bit_and word passing) passing 0 b) % 2 =
    low_bits (bit_and word passing + passing) b inside ∙ ap (λ n. bit_at n b) none ∙ sum_bit (bit_and word passing) passing 0 b
    ∙ ap (λ n. (n + bit_at passing b + carry (bit_and word passing) passing 0 b) % 2) (bit_at_and word passing b) in
    has_or word (bit_xor ((bit_and word passing + passing) % 2 ^ 64) passing) b
    ∙ ap (λ n. has_bit word b || n == 1)
    (bit_at_xor ((bit_and word passing + passing) % 2 ^ 64) passing b ∙ ap (λ n. (n + bit_at passing b) % 2) sum)
    ∙ this_place (bit_at word b) (bit_at passing b) (carry (bit_and word passing) passing 0 b) (bit_at-lt word b) (bit_at-lt passing b)
    carried.0 ∙ ap (λ t. has_bit word b || t) carried.1
  where
    none : bit_and word passing + passing ≡ bit_and word passing + passing + 0
    none = omega arith

-- A line that is cut at its first space.
use Rattle.std.proofs.Common.{◌≡◌, ◌≢◌, ℕ, zero, suc, ◌+◌, ◌-◌, ◌*◌, ◌^◌, ◌<◌, ◌≤◌, length, take, get_or, true, false, ◌==◌, List, [], ◌∷◌}
use Rattle.std.proofs.Common.{◌++◌, Some, None, refl, ap, arith}
use Rattle.std.proofs.lemmas.Bool.Decides.{nat_tests}
use Rattle.script.specs.Fields.{fields_of, with_byte_in_front}
use Rattle.std.proofs.Math.Nat.{add-zero, add-suc, le_refl, pow-succ'}
use Rattle.std.proofs.lemmas.Grind.{pow_more}
use Rattle.std.proofs.lemmas.List.Sums.{fold_more}
use Rattle.ere.specs.Classes.{is_digit}
use Rattle.ere.specs.Tokens.{decimal_value}
use Rattle.script.specs.Private.Cuts.{Cuts, Lacks, shown_fields}

other_byte : (b : ℕ) → b ≢ 32 → (b == 32) ≡ false
other_byte b h = grind (arith, nat_tests)

pub fields_of-keyword : (line : List ℕ) → Lacks 32 line → fields_of line ≡ shown_fields line None
unfolding fields_of
fields_of-keyword [] h = refl
fields_of-keyword (b ∷ line) h = rw (other_byte b h.0) (ap (with_byte_in_front b) (fields_of-keyword line h.1))

fields_of-space : (front back : List ℕ) → Lacks 32 front → fields_of (front ++ 32 ∷ back) ≡ shown_fields front (Some back)
unfolding fields_of
fields_of-space [] back h = refl
fields_of-space (b ∷ front) back h = rw (other_byte b h.0) (ap (with_byte_in_front b) (fields_of-space front back h.1))

pub fields_of-cut : (line front back : List ℕ) → Cuts 32 line front back → fields_of line ≡ shown_fields front (Some back)
fields_of-cut line front back h = rw h.whole (fields_of-space front back h.first)

power_grows : (i j : ℕ) → 10 ^ i ≤ 10 ^ (i + j)
power_grows i zero = rw add-zero (le_refl (10 ^ i))
power_grows i (suc j) = rw (add-suc, pow-succ') (omega (arith, power_grows i j))

-- a number of at most eight digits, to which one more digit can be added
pub room_for_digit : (size i : ℕ) → size < 10 ^ i → i < 9 → size < 10 ^ 8
room_for_digit size i h below =
    let grows : 10 ^ i ≤ 10 ^ (i + (8 - i)) = power_grows i (8 - i) in
    let exact : i + (8 - i) ≡ 8 = omega arith in
    omega (arith, rw exact at grows)

pub one_more_digit : (size digit i : ℕ) → size < 10 ^ i → digit < 10 → size * 10 + digit < 10 ^ (i + 1)
one_more_digit size digit i h below = rw pow_more (omega arith)

-- one more digit is worth its byte less the byte of `0`, which is 48
pub decimal_more : (digits : List ℕ) (i : ℕ) → i < length digits
    → decimal_value (take (i + 1) digits) ≡ 10 * decimal_value (take i digits) + (get_or digits i 0 - 48)
decimal_more digits i h = fold_more (λ value digit. 10 * value + (digit - 48)) 0 digits i 0 h

pub is_digit_by : {b : ℕ} → 48 ≤ b → b ≤ 57 → is_digit b ≡ true
is_digit_by low high = grind (arith, nat_tests)

-- Letters, and their other case.
use Rattle.std.proofs.Common.{◌≡◌, ◌≢◌, ℕ, ◌+◌, ◌-◌, ◌<◌, ◌≤◌, Bool, true, false, ◌&&◌, ◌||◌, ◌==◌, refl, sym, ap, ◌∙◌, arith}
use Rattle.std.proofs.lemmas.Bool.Decides.{nat_tests}
use Rattle.ere.specs.ByteSet.{has, is_line_byte, single, union}
use Rattle.ere.specs.Classes.{is_lower, is_upper}
use Rattle.ere.specs.Letters.{closed, other_case}
use Rattle.ere.proofs.SetLemmas.{has-set_of, set_of-ext}

-- a byte is a capital letter, a small letter, or its own other case
data Letter (b : ℕ) : Type 0 where
  upper : 65 ≤ b → b ≤ 90 → other_case b ≡ b + 32 → Letter b
  lower : 97 ≤ b → b ≤ 122 → other_case b ≡ b - 32 → Letter b
  neither : other_case b ≡ b → Letter b

letter : (b : ℕ) → Letter b
letter b = go (is_upper b) refl (is_lower b) refl
  where
    go : (u : Bool) → is_upper b ≡ u → (l : Bool) → is_lower b ≡ l → Letter b
    go true e l f = upper (grind (arith, nat_tests)) (grind (arith, nat_tests)) (rw e refl)
    go false e true f = lower (grind (arith, nat_tests)) (grind (arith, nat_tests)) (rw (e, f) refl)
    go false e false f = neither (rw (e, f) refl)

pub upper_is : (b : ℕ) → 65 ≤ b → b ≤ 90 → other_case b ≡ b + 32
upper_is b low high = let e : is_upper b ≡ true = grind (arith, nat_tests) in rw e refl

pub lower_is : (b : ℕ) → 97 ≤ b → b ≤ 122 → other_case b ≡ b - 32
lower_is b low high =
    let e : is_upper b ≡ false = grind (arith, nat_tests) in
    let f : is_lower b ≡ true = grind (arith, nat_tests) in
    rw (e, f) refl

other_case_twice : (b : ℕ) → other_case (other_case b) ≡ b
other_case_twice b = go (letter b)
  where
    go : Letter b → other_case (other_case b) ≡ b
    go (upper low high e) = ap other_case e ∙ lower_is (b + 32) (omega arith) (omega arith) ∙ omega arith
    go (lower low high e) = ap other_case e ∙ upper_is (b - 32) (omega arith) (omega arith) ∙ omega arith
    go (neither e) = ap other_case e ∙ e

pub other_case_line : (b : ℕ) → is_line_byte (other_case b) ≡ is_line_byte b
other_case_line b = go (letter b)
  where
    line : (c : ℕ) → 11 ≤ c → c < 256 → is_line_byte c ≡ true
    line c low high = grind (arith, nat_tests)

    go : Letter b → is_line_byte (other_case b) ≡ is_line_byte b
    go (upper low high e) = line (other_case b) (omega arith) (omega arith) ∙ sym (line b (omega arith) (omega arith))
    go (lower low high e) = line (other_case b) (omega arith) (omega arith) ∙ sym (line b (omega arith) (omega arith))
    go (neither e) = ap is_line_byte e

same_test : (a b c d : ℕ) → (a ≡ b → c ≡ d) → (c ≡ d → a ≡ b) → (a == b) ≡ (c == d)
same_test a b c d f g = go (a == b) refl
  where
    go : (t : Bool) → (a == b) ≡ t → (a == b) ≡ (c == d)
    go true e =
        let here : a ≡ b = grind (arith, nat_tests) in
        let there : c ≡ d = f here in
        let test : (c == d) ≡ true = grind (arith, nat_tests) in
        e ∙ sym test
    go false e =
        let here : a ≢ b = grind (arith, nat_tests) in
        let there : c ≢ d = λ h. here (g h) in
        let test : (c == d) ≡ false = grind (arith, nat_tests) in
        e ∙ sym test

pub both_cases : (b : ℕ) → union (single b) (single (other_case b)) ≡ closed (single b)
both_cases b = set_of-ext _ _ (λ x. ap (λ t. is_line_byte x && (has (single b) x || t)) (other x))
  where
    other : (x : ℕ) → has (single (other_case b)) x ≡ has (single b) (other_case x)
    other x =
        has-set_of (λ y. y == other_case b) x
        ∙ ap (λ t. is_line_byte x && t)
        (same_test x (other_case b) (other_case x) b (λ e. ap other_case e ∙ other_case_twice b)
        (λ e. sym (other_case_twice x) ∙ ap other_case e))
        ∙ ap (λ t. t && other_case x == b) (sym (other_case_line x))
        ∙ sym (has-set_of (λ y. y == b) (other_case x))

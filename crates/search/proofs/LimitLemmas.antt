-- Limits, and what is left of them.
use Rattle.std.proofs.Common.{◌≡◌, ℕ, ◌+◌, ◌-◌, ◌≤◌, ◌<◌, ◌⊎◌, inl, inr, true, false, Option, Some, None, List, [], ◌++◌, length, take, refl, sym, ◌∙◌, ap, arith, nat_lt}
use Rattle.std.proofs.Math.Seq.{take-append-add}
use Rattle.std.proofs.lemmas.Bool.{false≢true}
use Rattle.std.proofs.lemmas.Bool.Decides.{nat_tests}
use Rattle.std.proofs.lemmas.List.{append-nil, length-append, length-take, take-append-le, take_all}
use Rattle.search.specs.Private.Added.{IsReached}
use Rattle.search.specs.Private.Gathered.{left_from, one_more}
use Rattle.views.specs.Rows.{at_most, is_over, limited}

-- ---- one list after another

module _ {X : Type 0} where
  pub limited-all : (limit : Option ℕ) (xs : List X) → is_over limit (length xs) ≡ false → limited limit xs ≡ xs
  limited-all None xs within = refl
  limited-all (Some most) xs within = take_all most xs (grind (arith, nat_tests))

  pub limited-front : (limit : Option ℕ) (xs ys : List X) → is_over limit (length xs) ≡ false
      → limited limit (xs ++ ys) ≡ xs ++ limited (left_from limit (length xs)) ys
  limited-front None xs ys within = refl
  limited-front (Some most) xs ys within =
      let low : length xs ≤ most = grind (arith, nat_tests) in
      let same : most ≡ length xs + (most - length xs) = omega arith in
      ap (λ n. take n (xs ++ ys)) same ∙ take-append-add xs ys (most - length xs)

  pub limited-over : (limit : Option ℕ) (xs ys : List X) → is_over limit (length xs) ≡ true → limited limit (xs ++ ys) ≡ limited limit xs
  limited-over None xs ys over = absurd (false≢true over)
  limited-over (Some most) xs ys over = take-append-le most xs ys (grind (arith, nat_tests))

  pub length-limited : (limit : Option ℕ) (xs : List X) → length (limited limit xs) ≡ at_most limit (length xs)
  length-limited None xs = refl
  length-limited (Some most) xs = length-take most xs

  -- the members that are looked for say what is shown of all, and whether there are more
  pub limited-cut : (limit : Option ℕ) (xs rest : List X) → (rest ≡ []) ⊎ IsReached (one_more limit) (length xs)
      → (limited limit (xs ++ rest) ≡ limited limit xs) × (is_over limit (length (xs ++ rest)) ≡ is_over limit (length xs))
  limited-cut limit xs rest (inl none) =
      let same : xs ++ rest ≡ xs = ap (λ ys. xs ++ ys) none ∙ append-nil xs in
      (ap (λ ys. limited limit ys) same, ap (λ ys. is_over limit (length ys)) same)
  limited-cut None xs rest (inr full) = absurd full
  limited-cut (Some most) xs rest (inr full) =
      let over : nat_lt most (length xs) ≡ true = grind (arith, nat_tests) in
      let size = length-append xs rest in
      let all : nat_lt most (length (xs ++ rest)) ≡ true = grind (arith, nat_tests) in
      (take-append-le most xs rest (omega (arith, full)), all ∙ sym over)

-- ---- one number after another

pub at_most-within : (limit : Option ℕ) (a : ℕ) → is_over limit a ≡ false → at_most limit a ≡ a
at_most-within None a within = refl
at_most-within (Some most) a within = let low : a ≤ most = grind (arith, nat_tests) in omega arith

pub at_most-front : (limit : Option ℕ) (a b : ℕ) → is_over limit a ≡ false → at_most limit (a + b) ≡ a + at_most (left_from limit a) b
at_most-front None a b within = refl
at_most-front (Some most) a b within = let low : a ≤ most = grind (arith, nat_tests) in omega arith

pub is_over-front : (limit : Option ℕ) (a b : ℕ) → is_over limit a ≡ false → is_over limit (a + b) ≡ is_over (left_from limit a) b
is_over-front None a b within = refl
is_over-front (Some most) a b within = let low : a ≤ most = grind (arith, nat_tests) in grind (arith, nat_tests)

pub at_most-over : (limit : Option ℕ) (a b : ℕ) → is_over limit a ≡ true → at_most limit (a + b) ≡ at_most limit a
at_most-over None a b over = absurd (false≢true over)
at_most-over (Some most) a b over = let high : most < a = grind (arith, nat_tests) in omega arith

pub is_over-over : (limit : Option ℕ) (a b : ℕ) → is_over limit a ≡ true → is_over limit (a + b) ≡ true
is_over-over None a b over = absurd (false≢true over)
is_over-over (Some most) a b over = let high : most < a = grind (arith, nat_tests) in grind (arith, nat_tests)

-- ---- another limit

pub nothing_taken : (limit : Option ℕ) → left_from limit 0 ≡ limit
nothing_taken None = refl
nothing_taken (Some most) = let same : most - 0 ≡ most = omega arith in ap (λ n. Some n) same

pub is_over-left : (limit left : Option ℕ) (n : ℕ) → limit ≡ left → is_over limit n ≡ false → is_over left n ≡ false
is_over-left limit left n same within = ap (λ l. is_over l n) (sym same) ∙ within

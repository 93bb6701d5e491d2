-- Lists of numbers that rise, each number above the one before.
use Rattle.std.proofs.Common.{◌≡◌, ℕ, zero, suc, ◌+◌, ◌<◌, ◌≤◌, List, [], ◌∷◌, ◌++◌, length, get_or, take, ◌⊎◌, inl, inr, arith}
use Rattle.std.proofs.lemmas.Bool.{cases_lt}
use Rattle.std.specs.Prelude.{All, AllPairs}
use Rattle.std.specs.List.Sorted.{IsStrictlyIncreasing}
use Rattle.std.proofs.lemmas.List.Kept.{AllPairs-from_increasing, AllPairs-cons}
use Rattle.std.proofs.lemmas.List.{get_or-take, length-take-le}
use Rattle.std.proofs.lemmas.List.Elements.{All-nil, All-cons, All-head, All-tail, All-from_get_or}
use Rattle.std.proofs.lemmas.List.Quantifiers.{all_pairs_push}

-- each number is below every later one
pub rising_far : (xs : List ℕ) → IsStrictlyIncreasing xs → (i j : ℕ) → i < j → j < length xs → get_or xs i 0 < get_or xs j 0
rising_far xs h i j before inside = AllPairs-from_increasing xs h i j 0 before inside

pub rising_from_pairs : (xs : List ℕ) → AllPairs (λ x y. x < y) xs → IsStrictlyIncreasing xs
rising_from_pairs xs h = λ k inside. h k (k + 1) 0 (omega arith) inside

pub rising-tail : (x : ℕ) (xs : List ℕ) → IsStrictlyIncreasing (x ∷ xs) → IsStrictlyIncreasing xs
rising-tail x xs h =
    let pairs = AllPairs-from_increasing (x ∷ xs) h in
    rising_from_pairs xs (λ i j d before inside. pairs (suc i) (suc j) d (omega arith) (omega arith))

pub rising-head : (x : ℕ) (xs : List ℕ) → IsStrictlyIncreasing (x ∷ xs) → All (λ y. x < y) xs
rising-head x xs h =
    let pairs = AllPairs-from_increasing (x ∷ xs) h in
    λ k d inside. pairs zero (suc k) d (omega arith) (omega arith)

-- a number above all others, at the end
pub rising-push : (xs : List ℕ) (n : ℕ) → IsStrictlyIncreasing xs → All (λ x. x < n) xs → IsStrictlyIncreasing (xs ++ n ∷ [])
rising-push xs n h below =
    rising_from_pairs (xs ++ n ∷ []) (all_pairs_push (λ x y. x < y) xs n (AllPairs-from_increasing xs h) below)

-- no number is above one at the same place or later
pub rises_at : (xs : List ℕ) → IsStrictlyIncreasing xs → (i j : ℕ) → i ≤ j → j < length xs → get_or xs i 0 ≤ get_or xs j 0
rises_at xs h i j before inside = cases (cases_lt i j)
  where
    cases : (i < j) ⊎ (j ≤ i) → get_or xs i 0 ≤ get_or xs j 0
    cases (inl lt) = let below = rising_far xs h i j lt inside in omega arith
    cases (inr ge) = let e : i ≡ j = omega arith in rw e (omega arith)

-- the two parts of a list
pub All-left : (P : ℕ → Type 0) (xs ys : List ℕ) → All P (xs ++ ys) → All P xs
All-left P [] ys h = All-nil P
All-left P (x ∷ xs) ys h = All-cons P x xs (All-head P x (xs ++ ys) h) (All-left P xs ys (All-tail P x (xs ++ ys) h))

pub All-right : (P : ℕ → Type 0) (xs ys : List ℕ) → All P (xs ++ ys) → All P ys
All-right P [] ys h = h
All-right P (x ∷ xs) ys h = All-right P xs ys (All-tail P x (xs ++ ys) h)

-- the numbers before a place are below the one there
pub rising_below : (xs : List ℕ) (i : ℕ) → IsStrictlyIncreasing xs → i < length xs → All (λ m. m < get_or xs i 0) (take i xs)
rising_below xs i h inside =
    All-from_get_or (λ m. m < get_or xs i 0) (take i xs) 0
    (λ k before.
    let lt : k < i = omega (arith, before, length-take-le i xs (omega (arith, inside))) in
    omega (arith, get_or-take i xs k 0 lt, rising_far xs h k i lt inside))

pub rising-cons : (x : ℕ) (xs : List ℕ) → All (λ y. x < y) xs → IsStrictlyIncreasing xs → IsStrictlyIncreasing (x ∷ xs)
rising-cons x xs below h = rising_from_pairs (x ∷ xs) (AllPairs-cons (λ y z. y < z) x xs below (AllPairs-from_increasing xs h))

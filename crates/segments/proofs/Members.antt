-- Which numbers are in a list.
use Rattle.std.proofs.Common.{◌≡◌, ◌≢◌, ℕ, zero, ◌<◌, ◌≤◌, Bool, true, false, ◌==◌, ◌⊎◌, inl, inr, List, [], ◌∷◌, length, get_or}
use Rattle.std.proofs.Common.{refl, sym, ap, ◌∙◌, arith, Result, Ok, Err, MatchResult, is_ok}
use Rattle.std.specs.Prelude.{All, filter}
use Rattle.std.specs.List.Sorted.{IsStrictlyIncreasing, IsBinarySearchResult}
use Rattle.std.specs.Ordering.{nat_cmp}
use Rattle.std.proofs.lemmas.List.Sorted.{searched}
use Rattle.std.proofs.lemmas.Bool.{eq-eqb, false≢true, cases_lt}
use Rattle.std.proofs.lemmas.Bool.Decides.{nat_tests}
use Rattle.std.proofs.Math.Bool.{or-true}
use Rattle.std.proofs.lemmas.List.Folds.{list_any_at, list_any_none}
use Rattle.std.proofs.lemmas.List.Elements.{All-cons, All-head, All-tail, All-weaker, All-from_get_or}
use Rattle.segments.specs.Contents.{has}
use Rattle.segments.proofs.Rising.{rising-head, rising-tail, rises_at}

pub has_at : (xs : List ℕ) (i n : ℕ) → i < length xs → get_or xs i 0 ≡ n → has xs n ≡ true
has_at xs i n inside is = list_any_at (λ m. m == n) xs i 0 inside (eq-eqb (get_or xs i 0) n is)

-- a number that differs from each one is not among them
pub lacks_from_all : (xs : List ℕ) (n : ℕ) → All (λ m. m ≢ n) xs → has xs n ≡ false
lacks_from_all xs n h = list_any_none (λ m. m == n) xs (All-weaker (λ m. m ≢ n) (λ m. (m == n) ≡ false) (λ m ne. grind (arith, nat_tests)) xs h)

pub lacks_below : (xs : List ℕ) (n : ℕ) → All (λ m. n < m) xs → has xs n ≡ false
lacks_below xs n h = lacks_from_all xs n (All-weaker (λ m. n < m) (λ m. m ≢ n) (λ m lt e. omega arith) xs h)

pub lacks_above : (xs : List ℕ) (n : ℕ) → All (λ m. m < n) xs → has xs n ≡ false
lacks_above xs n h = lacks_from_all xs n (All-weaker (λ m. m < n) (λ m. m ≢ n) (λ m lt e. omega arith) xs h)

-- a number is not among rising numbers if those before a place are below it and the one there is above it
pub lacks_at : (xs : List ℕ) (i n : ℕ) → IsStrictlyIncreasing xs → ((k : ℕ) → k < i → k < length xs → get_or xs k 0 < n)
    → (i < length xs → n < get_or xs i 0) → has xs n ≡ false
lacks_at xs i n rises below at = lacks_from_all xs n (All-from_get_or (λ m. m ≢ n) xs 0 differs)
  where
    differs : (k : ℕ) → k < length xs → get_or xs k 0 ≢ n
    differs k inside e = by_place (cases_lt k i)
      where
        by_place : (k < i) ⊎ (i ≤ k) → ⊥
        by_place (inl lt) = omega (arith, below k lt inside)
        by_place (inr ge) = let there : i < length xs = omega arith in omega (arith, at there, rises_at xs rises i k ge inside)

-- what holds for all holds for each number that is there
pub All-has : (P : ℕ → Type 0) (xs : List ℕ) (n : ℕ) → All P xs → has xs n ≡ true → P n
All-has P [] n all there = absurd (false≢true there)
All-has P (x ∷ xs) n all there = cases (x == n) refl (All-has P xs n (All-tail P x xs all))
  where
    cases : (t : Bool) → (x == n) ≡ t → (has xs n ≡ true → P n) → P n
    cases true e later = let same : x ≡ n = grind (arith, nat_tests) in rw same at (All-head P x xs all)
    cases false e later = later (rw e at there)

-- where two tests agree on the numbers of a list
pub filter_agree_in : (p q : ℕ → Bool) (xs : List ℕ) → ((n : ℕ) → has xs n ≡ true → p n ≡ q n) → filter p xs ≡ filter q xs
filter_agree_in p q [] agree = refl
filter_agree_in p q (x ∷ xs) agree = cases (p x) (q x) refl refl (filter_agree_in p q xs (λ n there. agree n (rw there (or-true (x == n)))))
  where
    here : has (x ∷ xs) x ≡ true
    here = rw (eq-eqb x x refl) refl

    cases : (b c : Bool) → p x ≡ b → q x ≡ c → filter p xs ≡ filter q xs → filter p (x ∷ xs) ≡ filter q (x ∷ xs)
    cases true true e f later = rw (e, f) (ap (λ zs. x ∷ zs) later)
    cases false false e f later = rw (e, f) later
    cases true false e f later = absurd (false≢true (sym f ∙ sym (agree x here) ∙ e))
    cases false true e f later = absurd (false≢true (sym e ∙ agree x here ∙ f))

-- what holds for all of one list holds for all of another with the same numbers
pub All-same : (P : ℕ → Type 0) (xs ys : List ℕ) → ((n : ℕ) → has xs n ≡ has ys n) → All P ys → All P xs
All-same P xs ys same all =
    All-from_get_or P xs 0 (λ i inside. let n = get_or xs i 0 in All-has P ys n all (sym (same n) ∙ has_at xs i n inside refl))

pub filter_all : (p : ℕ → Bool) (xs : List ℕ) → All (λ m. p m ≡ true) xs → filter p xs ≡ xs
filter_all p [] h = refl
filter_all p (x ∷ xs) h = rw (All-head (λ m. p m ≡ true) x xs h) (ap (λ ys. x ∷ ys) (filter_all p xs (All-tail (λ m. p m ≡ true) x xs h)))

pub filter_none : (p : ℕ → Bool) (xs : List ℕ) → All (λ m. p m ≡ false) xs → filter p xs ≡ []
filter_none p [] h = refl
filter_none p (x ∷ xs) h = rw (All-head (λ m. p m ≡ false) x xs h) (filter_none p xs (All-tail (λ m. p m ≡ false) x xs h))

-- Rising lists with the same numbers are the same.
pub same_rising : (xs ys : List ℕ) → IsStrictlyIncreasing xs → IsStrictlyIncreasing ys → ((n : ℕ) → has xs n ≡ has ys n) → xs ≡ ys
same_rising [] [] up up' same = refl
same_rising [] (y ∷ ys) up up' same = absurd (false≢true (same y ∙ has_at (y ∷ ys) zero y (omega arith) refl))
same_rising (x ∷ xs) [] up up' same = absurd (false≢true (sym (same x) ∙ has_at (x ∷ xs) zero x (omega arith) refl))
same_rising (x ∷ xs) (y ∷ ys) up up' same =
    let heads : x ≡ y = same_heads in
    rw heads (ap (λ zs. y ∷ zs) (same_rising xs ys (rising-tail x xs up) (rising-tail y ys up') (λ n. same_tails n heads)))
  where
    above : (a : ℕ) (others : List ℕ) → IsStrictlyIncreasing (a ∷ others) → All (λ m. a ≤ m) (a ∷ others)
    above a others rises =
        All-cons (λ m. a ≤ m) a others (omega arith)
        (All-weaker (λ m. a < m) (λ m. a ≤ m) (λ m lt. omega arith) others (rising-head a others rises))

    same_heads : x ≡ y
    same_heads =
        let low : x ≤ y = All-has (λ m. x ≤ m) (x ∷ xs) y (above x xs up) (same y ∙ has_at (y ∷ ys) zero y (omega arith) refl) in
        let high : y ≤ x = All-has (λ m. y ≤ m) (y ∷ ys) x (above y ys up') (sym (same x) ∙ has_at (x ∷ xs) zero x (omega arith) refl) in
        omega arith

    same_tails : (n : ℕ) → x ≡ y → has xs n ≡ has ys n
    same_tails n heads = cases (x == n) refl
      where
        cases : (t : Bool) → (x == n) ≡ t → has xs n ≡ has ys n
        cases true e =
            let is : x ≡ n = grind (arith, nat_tests) in
            let is' : y ≡ n = omega arith in
            lacks_below xs n (rw is at (rising-head x xs up)) ∙ sym (lacks_below ys n (rw is' at (rising-head y ys up')))
        cases false e =
            let e' : (y == n) ≡ false = rw heads at e in
            rw e' at (rw e at (same n))

-- what `binary_search` says about rising numbers
abbrev pub SearchedFor : List ℕ → ℕ → Result ℕ ℕ → Type 0
SearchedFor xs n r =
    MatchResult r (λ i. (i < length xs) × (get_or xs i 0 ≡ n))
    (λ i. (i ≤ length xs) × ((k : ℕ) → k < i → get_or xs k 0 < n) × ((k : ℕ) → i ≤ k → k < length xs → n < get_or xs k 0))

pub searched_for : (xs : List ℕ) (n : ℕ) (r : Result ℕ ℕ) → IsStrictlyIncreasing xs → IsBinarySearchResult (λ y. nat_cmp y n) xs r → SearchedFor xs n r
searched_for xs n r rises h = searched xs n r h (rises_at xs rises)

pub has-searched : (xs : List ℕ) (n : ℕ) (r : Result ℕ ℕ) → IsStrictlyIncreasing xs → SearchedFor xs n r → has xs n ≡ is_ok r
has-searched xs n (Ok i) rising found = has_at xs i n found.0 found.1
has-searched xs n (Err i) rising absent = lacks_at xs i n rising (λ k before _. absent.1 k before) (λ inside. absent.2 i (omega arith) inside)

pub has_not : (xs : List ℕ) (n : ℕ) → has xs n ≡ false → All (λ m. m ≢ n) xs
has_not xs n lacks = All-from_get_or (λ m. m ≢ n) xs 0 (λ i inside e. false≢true (sym lacks ∙ has_at xs i n inside e))

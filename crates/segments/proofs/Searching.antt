-- The places of a rising list looked for among numbers that are read one by one.
use Rattle.std.proofs.Common.{◌≡◌, ◌≢◌, ℕ, zero, suc, ◌+◌, ◌-◌, ◌<◌, ◌≤◌, Bool, true, false, cond, ◌==◌, ◌⊎◌, inl, inr, List, [], ◌∷◌, ◌++◌}
use Rattle.std.proofs.Common.{length, get_or, drop, refl, sym, ap, ◌∙◌, arith, Some, add-one, append_assoc}
use Rattle.std.specs.Prelude.{All, filter, slice_get}
use Rattle.std.specs.List.Sorted.{IsStrictlyIncreasing}
use Rattle.std.proofs.lemmas.Bool.{eq-eqb}
use Rattle.std.proofs.lemmas.Bool.Decides.{nat_tests}
use Rattle.std.proofs.lemmas.Option.{slice_get-get_or}
use Rattle.std.proofs.lemmas.List.{append-nil, length-drop, get_or-drop, drop_more, drop_all, nil_from_length}
use Rattle.std.proofs.lemmas.List.Elements.{All-nil, All-cons, All-weaker, All-append, All-from_get_or, filter-append}
use Rattle.segments.specs.Contents.{has}
use Rattle.segments.specs.Private.Below.{numbers_below}
use Rattle.segments.specs.Private.Gaps.{numbers_after, IsSpelled, IsFirstNumber}
use Rattle.segments.specs.Private.Selection.{IsReached}
use Rattle.segments.proofs.Rising.{rising-head, rising_far, rises_at, rising-push}
use Rattle.segments.proofs.Members.{lacks_below, All-has, filter_agree_in}
use Rattle.segments.proofs.GapLemmas.{numbers_after-nil}

-- ---- a list beside numbers that are read one by one

-- What was found, and what is found among the places from `at` on by the bytes that are left, are all.
pub record IsSought (places bytes : List ℕ) (before : ℕ) (rest : List ℕ) (at : ℕ) (found : List ℕ) : Type 0 where
  pub spelled : IsSpelled before rest
  pub within : at ≤ length places
  pub below : (k : ℕ) → k < at → get_or places k 0 < before
  pub is : filter (has (numbers_after 0 bytes)) places ≡ found ++ filter (has (numbers_after before rest)) (drop at places)

pub sought_begins : (places bytes : List ℕ) → IsSpelled 0 bytes → IsSought places bytes 0 bytes 0 []
sought_begins places bytes spelled = record {
  spelled = spelled;
  within = omega arith;
  below = λ k before. absurd (omega (arith, before));
  is = refl;
}

-- places that fail can be passed
pass : (q : ℕ → Bool) (xs : List ℕ) (at more : ℕ) → at + more ≤ length xs → ((k : ℕ) → at ≤ k → k < at + more → q (get_or xs k 0) ≡ false)
    → filter q (drop at xs) ≡ filter q (drop (at + more) xs)
pass q xs at zero fits fail = let e : at + 0 ≡ at = omega arith in rw e refl
pass q xs at (suc more) fits fail =
    let here : at + more < length xs = omega (arith, fits) in
    let e : (at + more) + 1 ≡ at + suc more = omega arith in
    let none : q (get_or xs (at + more) 0) ≡ false = fail (at + more) (omega arith) (omega arith) in
    pass q xs at more (omega (arith, fits)) (λ k from before. fail k from (omega (arith, before)))
    ∙ ap (filter q) (drop_more xs (at + more) 0 here) ∙ rw none (ap (λ n. filter q (drop n xs)) e)

-- where all are above a number, it makes no difference
others : (n : ℕ) (ns xs : List ℕ) → All (λ x. n < x) xs → filter (has (n ∷ ns)) xs ≡ filter (has ns) xs
others n ns xs above =
    filter_agree_in (has (n ∷ ns)) (has ns) xs
    (λ m there.
    let lt = All-has (λ x. n < x) xs m above there in
    let ne : (n == m) ≡ false = grind (arith, nat_tests) in
    rw ne refl)

-- those from a place on are above what the one before them is not below
above_from : (xs : List ℕ) (i n : ℕ) → IsStrictlyIncreasing xs → (i < length xs → n < get_or xs i 0) → All (λ x. n < x) (drop i xs)
above_from xs i n rising first =
    All-from_get_or (λ x. n < x) (drop i xs) 0
    (λ k inside.
    let there : i + k < length xs = omega (arith, inside, length-drop i xs) in
    let low = first (omega (arith, there)) in
    let le = rises_at xs rising i (i + k) (omega arith) there in
    rw (get_or-drop i xs k 0) (omega (arith, low, le)))

module _ (places bytes : List ℕ) (before : ℕ) (rest : List ℕ) (at : ℕ) (found : List ℕ) (number : ℕ) (after : List ℕ) (next : ℕ)
    (rising : IsStrictlyIncreasing places) (h : IsSought places bytes before rest at found) (first : IsFirstNumber before rest number after)
    (from : at ≤ next) (reached : IsReached places number next) where
  abbrev ns : List ℕ
  ns = numbers_after number after

  ns_above : All (λ n. number < n) ns
  ns_above = rising-head number ns (rw first.numbers at h.spelled.rising)

  -- the places that were passed are not among the numbers
  passed : filter (has (number ∷ ns)) (drop at places) ≡ filter (has (number ∷ ns)) (drop next places)
  passed =
      let e : at + (next - at) ≡ next = omega (arith, from) in
      rw e at (pass (has (number ∷ ns)) places at (next - at) (omega (arith, from, reached.within))
      (λ k past inside.
      let lt = reached.below k (omega (arith, inside, from)) in
      lacks_below (number ∷ ns) (get_or places k 0)
      (All-cons (λ n. get_or places k 0 < n) number ns lt
      (All-weaker (λ n. number < n) (λ n. get_or places k 0 < n) (λ n up. omega (arith, up, lt)) ns ns_above))))

  so_far : filter (has (numbers_after 0 bytes)) places ≡ found ++ filter (has (number ∷ ns)) (drop next places)
  so_far = h.is ∙ ap (λ ms. found ++ filter (has ms) (drop at places)) first.numbers ∙ ap (λ xs. found ++ xs) passed

  pub sought_there : next < length places → get_or places next 0 ≡ number → IsSought places bytes number after next (found ++ number ∷ [])
  sought_there inside is = record {
    spelled = first.spelled;
    within = reached.within;
    below = reached.below;
    is =
        so_far ∙ ap (λ xs. found ++ filter (has (number ∷ ns)) xs) there
        ∙ ap (λ xs. found ++ xs) (rw (eq-eqb number number refl) (ap (λ xs. number ∷ xs) (others number ns (drop (next + 1) places) above)))
        ∙ sym (append_assoc found (number ∷ []) (filter (has ns) (drop (next + 1) places)))
        ∙ ap (λ xs. (found ++ number ∷ []) ++ xs) (sym (ap (filter (has ns)) there ∙ rw lacks refl));
  }
    where
      there : drop next places ≡ number ∷ drop (next + 1) places
      there = drop_more places next 0 inside ∙ ap (λ n. n ∷ drop (next + 1) places) is

      above : All (λ x. number < x) (drop (next + 1) places)
      above = above_from places (next + 1) number rising (λ low. let up = rising_far places rising next (next + 1) (omega arith) low in omega (arith, up, is))

      lacks : has ns number ≡ false
      lacks = lacks_below ns number ns_above

  pub sought_absent : (next < length places → get_or places next 0 ≢ number) → IsSought places bytes number after next found
  sought_absent ne = record {
    spelled = first.spelled;
    within = reached.within;
    below = reached.below;
    is = so_far ∙ ap (λ xs. found ++ xs) (others number ns (drop next places)
        (above_from places next number rising (λ low. let le = reached.at low in let differs = ne low in omega (arith, le, differs))));
  }

-- nothing more is found once there are no places or no numbers left
pub sought_ends : (places bytes : List ℕ) (before : ℕ) (rest : List ℕ) (at : ℕ) (found : List ℕ) → IsSought places bytes before rest at found
    → (length places ≤ at) ⊎ (length rest ≡ 0) → found ≡ filter (has (numbers_after 0 bytes)) places
sought_ends places bytes before rest at found h (inl past) =
    sym (h.is ∙ ap (λ xs. found ++ filter (has (numbers_after before rest)) xs) (drop_all at places past) ∙ append-nil found)
sought_ends places bytes before rest at found h (inr none) =
    let nothing : numbers_after before rest ≡ [] = ap (numbers_after before) (nil_from_length rest none) ∙ numbers_after-nil before in
    sym (h.is ∙ ap (λ ns. found ++ filter (has ns) (drop at places)) nothing ∙ ap (λ xs. found ++ xs) (no_numbers (drop at places)) ∙ append-nil found)
  where
    no_numbers : (xs : List ℕ) → filter (has []) xs ≡ []
    no_numbers [] = refl
    no_numbers (x ∷ xs) = no_numbers xs

pub all_below_last : (xs : List ℕ) (last : ℕ) → IsStrictlyIncreasing xs → Some last ≡ slice_get xs (length xs - 1) → All (λ n. n < last + 1) xs
all_below_last xs last rising is = All-from_get_or (λ n. n < last + 1) xs 0 at
  where
    at : (i : ℕ) → i < length xs → get_or xs i 0 < last + 1
    at i inside =
        let low : length xs - 1 < length xs = omega arith in
        let there = slice_get-get_or xs (length xs - 1) 0 low in
        let e : last ≡ get_or xs (length xs - 1) 0 = cc in
        let le = rises_at xs rising i (length xs - 1) (omega arith) low in
        omega (arith, le, e)

-- ---- the numbers below one

pub numbers_below-none : numbers_below 0 ≡ []
unfolding numbers_below
numbers_below-none = refl

pub numbers_below-more : (n : ℕ) → numbers_below (n + 1) ≡ numbers_below n ++ n ∷ []
unfolding numbers_below
numbers_below-more n = rw add-one refl

-- one place more among those that pass a test
module _ (test : ℕ → Bool) (place : ℕ) (found : List ℕ) (is : found ≡ filter test (numbers_below place)) where
  next_place : (b : Bool) → test place ≡ b → found ++ cond b (place ∷ []) [] ≡ filter test (numbers_below (place + 1))
  next_place b e =
      sym (ap (filter test) (numbers_below-more place) ∙ filter-append test (numbers_below place) (place ∷ [])
      ∙ ap (λ xs. xs ++ filter test (place ∷ [])) (sym is) ∙ ap (λ c. found ++ cond c (place ∷ []) []) e)

  pub below_there : test place ≡ true → found ++ place ∷ [] ≡ filter test (numbers_below (place + 1))
  below_there e = next_place true e

  pub below_absent : test place ≡ false → found ≡ filter test (numbers_below (place + 1))
  below_absent e = sym (append-nil found) ∙ next_place false e

pub are_below : (n : ℕ) → All (λ m. m < n) (numbers_below n)
unfolding numbers_below
are_below zero = All-nil (λ m. m < 0)
are_below (suc n) =
    All-append (λ m. m < suc n) (numbers_below n) (n ∷ [])
    (All-weaker (λ m. m < n) (λ m. m < suc n) (λ m lt. omega (arith, lt)) (numbers_below n) (are_below n))
    (All-cons (λ m. m < suc n) n [] (omega arith) (All-nil (λ m. m < suc n)))

pub numbers_below-rising : (n : ℕ) → IsStrictlyIncreasing (numbers_below n)
unfolding numbers_below
numbers_below-rising zero = λ k inside. absurd (omega (arith, inside))
numbers_below-rising (suc n) = rising-push (numbers_below n) n (numbers_below-rising n) (are_below n)

-- Lists whose elements rise.
use Rattle.std.proofs.Common.{◌≡◌, ℕ, ◌+◌, ◌<◌, ◌⊎◌, inl, inr, Bool, List, [], ◌∷◌, map, length, get_or, refl, sym, ◌∙◌, ap, subst, arith}
use Rattle.std.specs.Prelude.{AllPairs, filter}
use Rattle.std.specs.List.{AllByRecursion}
use Rattle.std.specs.List.Sorted.{IsStrictlyIncreasing, IsStrictlySortedBy}
use Rattle.std.specs.Ordering.{ordering_reverse}
use Rattle.std.specs.Cmp.{IsTotalOrder}
use Rattle.std.specs.declared.cmp.Ordering.{Ordering}
use Rattle.std.specs.declared.cmp.Ordering.TheVariants.{Less}
use Rattle.std.specs.Prelude.{Contains}
use Rattle.documents.proofs.ElementLemmas.{Contains-cons, Contains-head, Contains-tail}
use Rattle.std.proofs.lemmas.List.{length-map, get_or-map}
use Rattle.std.proofs.lemmas.List.Kept.{AllPairs-from_increasing, AllPairs-filter}

module _ {X : Type 0} (n : X → ℕ) where
  -- the number at a place is below that at a later one
  pub below_later : (xs : List X) → IsStrictlyIncreasing (map n xs) → (i j : ℕ) (d : X) → i < j → j < length xs → n (get_or xs i d) < n (get_or xs j d)
  below_later xs rise i j d before inside =
      let within : j < length (map n xs) = omega (arith, length-map xs n) in
      let less = AllPairs-from_increasing (map n xs) rise i j 0 before within in
      let first : get_or (map n xs) i 0 ≡ n (get_or xs i d) = get_or-map n xs i d 0 (omega arith) in
      let second : get_or (map n xs) j 0 ≡ n (get_or xs j d) = get_or-map n xs j d 0 inside in
      omega (arith, less, first, second)

  increasing : (xs : List X) → AllPairs (λ x y. n x < n y) xs → IsStrictlyIncreasing (map n xs)
  increasing [] less = λ k inside. absurd (omega arith)
  increasing (x ∷ xs) less = λ k inside.
      let within : k + 1 < length (x ∷ xs) = omega (arith, length-map (x ∷ xs) n) in
      let first : get_or (map n (x ∷ xs)) k 0 ≡ n (get_or (x ∷ xs) k x) = get_or-map n (x ∷ xs) k x 0 (omega arith) in
      let second : get_or (map n (x ∷ xs)) (k + 1) 0 ≡ n (get_or (x ∷ xs) (k + 1) x) = get_or-map n (x ∷ xs) (k + 1) x 0 within in
      let step = less k (k + 1) x (omega arith) within in
      omega arith

  -- they still rise if some are left out
  pub rise-filter : (p : X → Bool) (xs : List X) → IsStrictlyIncreasing (map n xs) → IsStrictlyIncreasing (map n (filter p xs))
  rise-filter p xs rise = increasing (filter p xs) (AllPairs-filter (λ x y. n x < n y) p xs (λ i j d before inside. below_later xs rise i j d before inside))

-- ---- by an order

pub rises_by : {X K : Type 0} (cmp : K → K → Ordering) (f : X → K) (xs : List X) → IsStrictlySortedBy cmp (map f xs)
    → IsStrictlySortedBy (λ x y. cmp (f x) (f y)) xs
unfolding IsStrictlySortedBy
rises_by cmp f [] rises = tt
rises_by {X = X} cmp f (x ∷ xs) rises = (all xs rises.0, rises_by cmp f xs rises.1)
  where
    all : (ys : List X) → AllByRecursion (λ k. cmp (f x) k ≡ Less) (map f ys) → AllByRecursion (λ y. cmp (f x) (f y) ≡ Less) ys
    all [] h = tt
    all (y ∷ ys) h = (h.0, all ys h.1)

-- Rising lists with the same elements are one.
module _ {X : Type 0} {cmp : X → X → Ordering} (order : IsTotalOrder cmp) where
  not_both : (x y : X) → cmp x y ≡ Less → cmp y x ≡ Less → ⊥
  not_both x y below above =
      let both : Less ≡ ordering_reverse Less = sym below ∙ order.antisymm x y ∙ ap ordering_reverse above in
      absurd (cc both)

  below_all : (x : X) (xs : List X) → AllByRecursion (λ y. cmp x y ≡ Less) xs → (y : X) → Contains xs y → cmp x y ≡ Less
  below_all x [] all y there = absurd (omega (arith, there.1))
  below_all x (z ∷ xs) all y there = go (below_all x xs all.1 y) (Contains-cons z xs y there)
    where
      go : (Contains xs y → cmp x y ≡ Less) → (z ≡ y) ⊎ Contains xs y → cmp x y ≡ Less
      go deeper (inl same) = subst (λ h. cmp x h ≡ Less) same all.0
      go deeper (inr later) = deeper later

  same_first : (x y : X) (xs ys : List X) → AllByRecursion (λ h. cmp x h ≡ Less) xs → AllByRecursion (λ h. cmp y h ≡ Less) ys
      → Contains (y ∷ ys) x → Contains (x ∷ xs) y → x ≡ y
  same_first x y xs ys low high first second = go (Contains-cons y ys x first) (Contains-cons x xs y second)
    where
      go : (y ≡ x) ⊎ Contains ys x → (x ≡ y) ⊎ Contains xs y → x ≡ y
      go (inl same) other = sym same
      go (inr later) (inl same) = same
      go (inr later) (inr after) = absurd (not_both x y (below_all x xs low y after) (below_all y ys high x later))

  same_rest : (x y : X) (xs ys : List X) → x ≡ y → AllByRecursion (λ h. cmp x h ≡ Less) xs
      → ((h : X) → Contains (x ∷ xs) h → Contains (y ∷ ys) h) → (h : X) → Contains xs h → Contains ys h
  same_rest x y xs ys same low all h there = go (Contains-cons y ys h (all h (Contains-tail x xs h there)))
    where
      go : (y ≡ h) ⊎ Contains ys h → Contains ys h
      go (inl first) =
          let below : cmp x x ≡ Less = subst (λ z. cmp x z ≡ Less) (sym (same ∙ first)) (below_all x xs low h there) in
          absurd (not_both x x below below)
      go (inr later) = later

  pub same_elements : (xs ys : List X) → IsStrictlySortedBy cmp xs → IsStrictlySortedBy cmp ys → ((h : X) → Contains xs h → Contains ys h)
      → ((h : X) → Contains ys h → Contains xs h) → xs ≡ ys
  unfolding IsStrictlySortedBy
  same_elements [] [] low high there back = refl
  same_elements [] (y ∷ ys) low high there back = let none = back y (Contains-head y ys) in absurd (omega (arith, none.1))
  same_elements (x ∷ xs) [] low high there back = let none = there x (Contains-head x xs) in absurd (omega (arith, none.1))
  same_elements (x ∷ xs) (y ∷ ys) low high there back =
      let first : x ≡ y = same_first x y xs ys low.0 high.0 (there x (Contains-head x xs)) (back y (Contains-head y ys)) in
      let rest : xs ≡ ys =
      same_elements xs ys low.1 high.1 (same_rest x y xs ys first low.0 there) (same_rest y x ys xs (sym first) high.0 back) in
      ap (λ h. h ∷ xs) first ∙ ap (λ t. y ∷ t) rest

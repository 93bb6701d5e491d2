-- Texts, and which elements a list has.
use Rattle.std.proofs.Common.{◌≡◌, ℕ, zero, suc, ◌<◌, ◌⊎◌, inl, inr, Bool, true, false, cond, List, [], ◌∷◌, map, length, get_or}
use Rattle.std.proofs.Common.{Contains, refl, ap, subst, arith}
use Rattle.std.specs.Prelude.{bytes_eq, filter}
use Rattle.std.specs.Cmp.Lexicographic.{bytes_decides}
use Rattle.std.proofs.lemmas.Cmp.{nat_list_eq_equiv}
pub use Rattle.query.proofs.OrderLemmas.{Contains-filter, Contains-from_filter as filter-Contains}

pub same_name : (x y : List ℕ) → bytes_eq x y ≡ true → x ≡ y
same_name x y e = (bytes_decides x y).0 e

pub bytes_eq-refl : (x : List ℕ) → bytes_eq x x ≡ true
bytes_eq-refl x = nat_list_eq_equiv.refl x

pub bytes_eq-sym : (x y : List ℕ) → bytes_eq x y ≡ bytes_eq y x
bytes_eq-sym x y = nat_list_eq_equiv.symm x y

-- ---- which elements a list has

pub Contains-cons : {X : Type 0} (x : X) (xs : List X) (d : X) → Contains (x ∷ xs) d → (x ≡ d) ⊎ Contains xs d
Contains-cons x xs d h = go h.0 h.1 h.2
  where
    go : (k : ℕ) → k < suc (length xs) → get_or (x ∷ xs) k d ≡ d → (x ≡ d) ⊎ Contains xs d
    go zero below is = inl is
    go (suc k) below is = inr (k, omega arith, is)

pub Contains-head : {X : Type 0} (x : X) (xs : List X) → Contains (x ∷ xs) x
Contains-head x xs = (0, omega arith, refl)

pub Contains-tail : {X : Type 0} (x : X) (xs : List X) (d : X) → Contains xs d → Contains (x ∷ xs) d
Contains-tail x xs d h = (suc h.0, omega (arith, h.1), h.2)

pub Contains-map : {X Y : Type 0} (f : X → Y) (xs : List X) (x : X) → Contains xs x → Contains (map f xs) (f x)
Contains-map f [] x h = absurd (omega (arith, h.1))
Contains-map f (y ∷ xs) x h =
    elim (Contains-cons y xs x h) [
      | inl is ↦ subst (λ z. Contains (f y ∷ map f xs) (f z)) is (Contains-head (f y) (map f xs))
      | inr rest ↦ Contains-tail (f y) (map f xs) (f x) (Contains-map f xs x rest)
    ]

pub map-Contains : {X Y : Type 0} (f : X → Y) (xs : List X) (y : Y) → Contains (map f xs) y → (x : X) × Contains xs x × (f x ≡ y)
map-Contains f [] y h = absurd (omega (arith, h.1))
map-Contains f (x ∷ xs) y h =
    elim (Contains-cons (f x) (map f xs) y h) [
      | inl is ↦ (x, Contains-head x xs, is)
      | inr rest ↦ (let at = map-Contains f xs y rest in (at.0, Contains-tail x xs at.0 at.1, at.2))
    ]

pub map_twice : {X Y Z : Type 0} (f : X → Y) (g : Y → Z) (xs : List X) → map g (map f xs) ≡ map (λ x. g (f x)) xs
map_twice f g [] = refl
map_twice f g (x ∷ xs) = ap (λ ys. g (f x) ∷ ys) (map_twice f g xs)

pub filter_mapped : {X Y : Type 0} (f : X → Y) (p : Y → Bool) (xs : List X) → filter p (map f xs) ≡ map f (filter (λ x. p (f x)) xs)
filter_mapped f p [] = refl
filter_mapped f p (x ∷ xs) = go (p (f x)) (filter_mapped f p xs)
  where
    go : (t : Bool) → filter p (map f xs) ≡ map f (filter (λ y. p (f y)) xs)
        → cond t (f x ∷ filter p (map f xs)) (filter p (map f xs)) ≡ map f (cond t (x ∷ filter (λ y. p (f y)) xs) (filter (λ y. p (f y)) xs))
    go true e = ap (λ ys. f x ∷ ys) e
    go false e = e

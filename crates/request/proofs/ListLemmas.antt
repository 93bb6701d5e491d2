-- Lists made of lists, and lists of settings.
use Rattle.std.proofs.Common.{◌≡◌, ℕ, suc, ◌+◌, ◌<◌, Bool, true, false, ◌||◌, cond, List, [], ◌∷◌, ◌++◌, length, map, get_or, take, drop, Option, Some, None}
use Rattle.std.proofs.Common.{refl, sym, ap, subst, ◌∙◌, arith, length-append}
use Rattle.std.specs.Prelude.{slice_get, count_by, fold, find, option_map}
use Rattle.std.specs.Option.{option_or}
use Rattle.std.specs.List.{All, AllPairs, cons_option, filter_map, list_any}
use Rattle.std.proofs.lemmas.List.{take_more, take-append-drop}
use Rattle.std.proofs.lemmas.List.Elements.{All-head, All-tail, filter_map-append}
use Rattle.std.proofs.lemmas.List.Folds.{find-append}
use Rattle.std.proofs.lemmas.List.Sums.{sum_by-append}
use Rattle.std.proofs.Math.ListN.{get_or-append}
use Rattle.std.proofs.Math.Seq.{get_or-append_seam, drop-cons}

pub filter_map-map : {X Y Z : Type 0} (f : Y → Option Z) (g : X → Y) (xs : List X) → filter_map f (map g xs) ≡ filter_map (λ x. f (g x)) xs
filter_map-map f g [] = refl
filter_map-map f g (x ∷ xs) = ap (cons_option (f (g x))) (filter_map-map f g xs)

pub list_any-map : {X Y : Type 0} (p : Y → Bool) (g : X → Y) (xs : List X) → list_any p (map g xs) ≡ list_any (λ x. p (g x)) xs
list_any-map p g [] = refl
list_any-map p g (x ∷ xs) = ap (λ t. p (g x) || t) (list_any-map p g xs)

count_from-map : {X Y : Type 0} (p : Y → Bool) (g : X → Y) (xs : List X) (n : ℕ)
    → fold (λ a y. a + cond (p y) 1 0) n (map g xs) ≡ fold (λ a x. a + cond (p (g x)) 1 0) n xs
count_from-map p g [] n = refl
count_from-map p g (x ∷ xs) n = count_from-map p g xs (n + cond (p (g x)) 1 0)

pub count_by-map : {X Y : Type 0} (p : Y → Bool) (g : X → Y) (xs : List X) → count_by p (map g xs) ≡ count_by (λ x. p (g x)) xs
count_by-map p g xs = count_from-map p g xs 0

pub count_by-append : {X : Type 0} (p : X → Bool) (xs ys : List X) → count_by p (xs ++ ys) ≡ count_by p xs + count_by p ys
count_by-append p xs ys = sum_by-append (λ x. cond (p x) 1 0) xs ys

-- the elements up to a place, that at the place, and the others
split_at : {X : Type 0} (xs : List X) (i : ℕ) (d : X) → i < length xs → xs ≡ take i xs ++ get_or xs i d ∷ drop (i + 1) xs
split_at xs i d inside =
    let next : suc i ≡ i + 1 = omega arith in
    sym (take-append-drop i xs) ∙ ap (λ t. take i xs ++ t) (drop-cons xs i d inside ∙ ap (λ n. get_or xs i d ∷ drop n xs) next)

-- what the first element gives for which there is something
pub none_more : {X Y : Type 0} (f : X → Option Y) (xs : List X) (i : ℕ) (d : X) → i < length xs → filter_map f (take i xs) ≡ []
    → f (get_or xs i d) ≡ None → filter_map f (take (i + 1) xs) ≡ []
none_more f xs i d inside none here =
    ap (filter_map f) (take_more xs i d inside) ∙ filter_map-append f (take i xs) (get_or xs i d ∷ []) ∙ ap (λ t. t ++ filter_map f (get_or xs i d ∷ [])) none
    ∙ ap (λ o. cons_option o []) here

pub first_here : {X Y : Type 0} (f : X → Option Y) (xs : List X) (i : ℕ) (d : X) (y : Y) → i < length xs → filter_map f (take i xs) ≡ []
    → f (get_or xs i d) ≡ Some y → slice_get (filter_map f xs) 0 ≡ Some y
first_here f xs i d y inside none here =
    ap (λ t. slice_get t 0) (ap (filter_map f) (split_at xs i d inside) ∙ filter_map-append f (take i xs) (get_or xs i d ∷ drop (i + 1) xs)
    ∙ ap (λ t. t ++ filter_map f (get_or xs i d ∷ drop (i + 1) xs)) none ∙ ap (λ o. cons_option o (filter_map f (drop (i + 1) xs))) here)

-- a pair of a list with one more element
pub pair_at : {X : Type 0} (R : X → X → Type 0) (xs : List X) (y : X) (ys : List X) → AllPairs R (xs ++ y ∷ ys) → (k : ℕ) (d : X) → k < length xs
    → R (get_or xs k d) y
pair_at R xs y ys pairs k d inside =
    let one = pairs k (length xs) d inside (omega (arith, length-append xs (y ∷ ys))) in
    subst (λ x. R x y) (get_or-append xs (y ∷ ys) d k inside) (subst (λ x. R (get_or (xs ++ y ∷ ys) k d) x) (get_or-append_seam xs y ys d) one)

-- ---- the first element that passes a test

pub find-map : {X Y : Type 0} (p : Y → Bool) (g : X → Y) (xs : List X) → find p (map g xs) ≡ option_map g (find (λ x. p (g x)) xs)
find-map p g [] = refl
find-map {X} p g (x ∷ xs) = go (p (g x)) (find-map p g xs)
  where
    go : (b : Bool) → find p (map g xs) ≡ option_map g (find (λ y. p (g y)) xs)
        → cond b (Some (g x)) (find p (map g xs)) ≡ option_map g (cond b (Some x) (find (λ y. p (g y)) xs))
    go true others = refl
    go false others = others

pub find_none : {X : Type 0} (p : X → Bool) (xs : List X) → All (λ x. p x ≡ false) xs → find p xs ≡ None
find_none p [] none = refl
find_none p (x ∷ xs) none =
    ap (λ b. cond b (Some x) (find p xs)) (All-head (λ y. p y ≡ false) x xs none) ∙ find_none p xs (All-tail (λ y. p y ≡ false) x xs none)

pub find_here : {X : Type 0} (p : X → Bool) (xs : List X) (i : ℕ) (d : X) → i < length xs → All (λ x. p x ≡ false) (take i xs)
    → p (get_or xs i d) ≡ true → find p xs ≡ Some (get_or xs i d)
find_here p xs i d inside none here =
    let later = drop (i + 1) xs in
    ap (find p) (split_at xs i d inside) ∙ find-append p (take i xs) (get_or xs i d ∷ later)
    ∙ ap (λ o. option_or o (find p (get_or xs i d ∷ later))) (find_none p (take i xs) none)
    ∙ ap (λ b. cond b (Some (get_or xs i d)) (find p later)) here

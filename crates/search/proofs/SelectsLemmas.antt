-- What is kept of a list: lines, one document after another, and documents.
use Rattle.std.proofs.Common.{◌≡◌, inl, inr, List, ◌∷◌, ◌++◌, map, Contains, sym, subst, arith}
use Rattle.std.specs.List.{AllByRecursion}
use Rattle.std.specs.List.Sorted.{IsStrictlySortedBy}
use Rattle.std.specs.declared.cmp.Ordering.{Ordering}
use Rattle.std.specs.declared.cmp.Ordering.TheVariants.{Less}
use Rattle.documents.proofs.ElementLemmas.{Contains-cons, Contains-head, Contains-tail}
use Rattle.search.specs.Selects.{Selects, done, keep, skip}

pub Selects-append : {X : Type 0} {Has : X → Type 0} {xs ys a b : List X} → Selects Has xs a → Selects Has ys b → Selects Has (xs ++ ys) (a ++ b)
Selects-append done s = s
Selects-append (keep h r) s = keep h (Selects-append r s)
Selects-append (skip h r) s = skip h (Selects-append r s)

-- what is kept of the values `f x` of a list
pub Selects-map : {X Y : Type 0} (f : X → Y) (Has : Y → Type 0) {xs kept : List X} → Selects (λ x. Has (f x)) xs kept
    → Selects Has (map f xs) (map f kept)
Selects-map f Has done = done
Selects-map f Has (keep h r) = keep h (Selects-map f Has r)
Selects-map f Has (skip h r) = skip h (Selects-map f Has r)

-- what holds for each member holds for each that is kept
pub All-Selects : {X : Type 0} {Has : X → Type 0} {all kept : List X} (P : X → Type 0) → Selects Has all kept → AllByRecursion P all → AllByRecursion P kept
All-Selects P done each = tt
All-Selects P (keep h r) each = (each.0, All-Selects P r each.1)
All-Selects P (skip h r) each = All-Selects P r each.1

pub sorted-Selects : {X : Type 0} {Has : X → Type 0} {all kept : List X} (cmp : X → X → Ordering) → Selects Has all kept
    → IsStrictlySortedBy cmp all → IsStrictlySortedBy cmp kept
unfolding IsStrictlySortedBy
sorted-Selects cmp done sorted = tt
sorted-Selects cmp (keep {x = f} h r) sorted = (All-Selects (λ y. cmp f y ≡ Less) r sorted.0, sorted-Selects cmp r sorted.1)
sorted-Selects cmp (skip h r) sorted = sorted-Selects cmp r sorted.1

-- the kept are those that have the property
pub Contains-kept : {X : Type 0} {Has : X → Type 0} {all kept : List X} (x : X) → Selects Has all kept → Contains kept x → Contains all x × Has x
Contains-kept x done h = absurd (omega (arith, h.1))
Contains-kept {Has} x (keep {x = f} {all} {kept} p r) h =
    elim (Contains-cons f kept x h) [
      | inl is ↦ (subst (λ y. Contains (f ∷ all) y) is (Contains-head f all), subst Has is p)
      | inr rest ↦ (let deeper = Contains-kept x r rest in (Contains-tail f all x deeper.0, deeper.1))
    ]
Contains-kept x (skip {x = f} {all} p r) h = let deeper = Contains-kept x r h in (Contains-tail f all x deeper.0, deeper.1)

pub kept-Contains : {X : Type 0} {Has : X → Type 0} {all kept : List X} (x : X) → Selects Has all kept → Contains all x → Has x → Contains kept x
kept-Contains x done h has = absurd (omega (arith, h.1))
kept-Contains x (keep {x = f} {all} {kept} p r) h has =
    elim (Contains-cons f all x h) [
      | inl is ↦ subst (λ y. Contains (f ∷ kept) y) is (Contains-head f kept)
      | inr rest ↦ Contains-tail f kept x (kept-Contains x r rest has)
    ]
kept-Contains {Has} x (skip {x = f} {all} {kept} p r) h has =
    elim (Contains-cons f all x h) [ inl is ↦ absurd (p (subst Has (sym is) has)) | inr rest ↦ kept-Contains x r rest has ]

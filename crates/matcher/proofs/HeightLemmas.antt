-- Star heights.
use Rattle.std.proofs.Common.{◌≡◌, ℕ, suc, ◌+◌, ◌-◌, ◌<◌, ◌≤◌, Bool, true, false, List, map, drop, length, get_or, max, nat_le, Some, None}
use Rattle.std.proofs.Common.{refl, sym, ap, ◌∙◌, arith}
use Rattle.std.proofs.lemmas.Bool.Decides.{nat_tests}
use Rattle.ere.specs.declared.tree.Ere.{Ere}
use Rattle.ere.specs.Tree.{form, trees_of, Tree, empty, set, at_start, at_end, cat, alt, repeat, Trees}
use Rattle.matcher.specs.StarHeight.{star_height, greatest_height, is_set}
use Rattle.matcher.proofs.MemberLemmas.{trees_at, no_trees}

pub below : (least height : ℕ) → (least ≡ 0 → ⊥) → height ≡ 0 → false ≡ nat_le least height
below least height some e = let low : height < least = omega (arith, some, e) in grind (arith, nat_tests)

pub empty_height : star_height empty ≡ 0
unfolding star_height
empty_height = refl

pub set_height : (members : List Bool) → star_height (set members) ≡ 0
unfolding star_height
set_height members = refl

pub start_height : star_height at_start ≡ 0
unfolding star_height
start_height = refl

pub end_height : star_height at_end ≡ 0
unfolding star_height
end_height = refl

pub cat_height : (members : Trees) → star_height (cat members) ≡ greatest_height members
unfolding star_height
cat_height members = refl

pub alt_height : (members : Trees) → star_height (alt members) ≡ greatest_height members
unfolding star_height
alt_height members = refl

pub bounded_height : (body : Tree) (least most : ℕ) → star_height (repeat body least (Some most)) ≡ star_height body
unfolding star_height
bounded_height body least most = refl

pub set_star_height : (body : Tree) (least : ℕ) → is_set body ≡ true → star_height (repeat body least None) ≡ 0
unfolding star_height
set_star_height body least e = rw e refl

pub star_height_more : (body : Tree) (least : ℕ) → is_set body ≡ false → star_height (repeat body least None) ≡ suc (star_height body)
unfolding star_height
star_height_more body least e = rw e refl

-- a star's body needs a height of one less
pub one_less : (least height : ℕ) → (least ≡ 0 → ⊥) → nat_le (least - 1) height ≡ nat_le least (suc height)
one_less least height some = go (nat_le least (suc height)) refl
  where
    go : (t : Bool) → nat_le least (suc height) ≡ t → nat_le (least - 1) height ≡ t
    go true e = let low : least ≤ suc height = grind (arith, nat_tests) in let less : least - 1 ≤ height = omega arith in grind (arith, nat_tests)
    go false e = let high : suc height < least = grind (arith, nat_tests) in let more : height < least - 1 = omega arith in grind (arith, nat_tests)

-- ---- members

abbrev pub height_from : List Ere → ℕ → ℕ
height_from members k = greatest_height (trees_of (map form (drop k members)))

le_max : (least a b : ℕ) → nat_le least a ≡ false → nat_le least (max a b) ≡ nat_le least b
le_max least a b lower = go (nat_le least b) refl
  where
    low : a < least
    low = grind (arith, nat_tests)

    go : (t : Bool) → nat_le least b ≡ t → nat_le least (max a b) ≡ t
    go true e = let second : least ≤ b = grind (arith, nat_tests) in let either : least ≤ max a b = omega arith in grind (arith, nat_tests)
    go false e = let second : b < least = grind (arith, nat_tests) in let neither : max a b < least = omega (arith, low, second) in grind (arith, nat_tests)

next_height : (members : List Ere) (k : ℕ) (member : Ere) → k < length members → member ≡ get_or members k member
    → height_from members k ≡ max (star_height (form member)) (height_from members (k + 1))
unfolding greatest_height
next_height members k member low e = ap greatest_height (trees_at members k member low e)

-- a member that is too low
pub member_passed : (least : ℕ) (members : List Ere) (k : ℕ) (member : Ere) (found : Bool) → k < length members
    → member ≡ get_or members k member → found ≡ nat_le least (star_height (form member)) → found ≡ false
    → nat_le least (height_from members k) ≡ nat_le least (height_from members (k + 1))
member_passed least members k member found low e is lower =
    ap (nat_le least) (next_height members k member low e) ∙ le_max least (star_height (form member)) (height_from members (k + 1)) (sym is ∙ lower)

-- a member that is high enough
pub member_found : (least : ℕ) (members : List Ere) (k : ℕ) (member : Ere) (found : Bool) → k < length members
    → member ≡ get_or members k member → found ≡ nat_le least (star_height (form member)) → found ≡ true
    → true ≡ nat_le least (height_from members k)
member_found least members k member found low e is some =
    let held : nat_le least (star_height (form member)) ≡ true = sym is ∙ some in
    let first : least ≤ star_height (form member) = grind (arith, nat_tests) in
    let all : least ≤ height_from members k = omega (arith, first, next_height members k member low e) in
    grind (arith, nat_tests)

pub no_member_left : (least : ℕ) (members : List Ere) (k : ℕ) → 0 < least → length members ≤ k → false ≡ nat_le least (height_from members k)
unfolding greatest_height
no_member_left least members k some high =
    let nothing : height_from members k ≡ 0 = ap greatest_height (no_trees members k high) in
    let low : height_from members k < least = omega (arith, nothing, some) in
    grind (arith, nat_tests)

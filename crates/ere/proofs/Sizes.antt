-- Sizes and properness of the trees of a program's trees, variant by variant.
use Rattle.std.proofs.Common.{◌≡◌, ℕ, ◌+◌, ◌-◌, ◌*◌, ◌<◌, ◌≤◌, ◌↔◌, Bool, true, false, leb, IsTrue, List, [], ◌∷◌, length, get_or, drop}
use Rattle.std.proofs.Common.{map, max, min, nat_le, Option, Some, None, IfSome, refl, sym, ap, ◌∙◌, arith}
use Rattle.std.proofs.Math.Nat.{mul-le-mul_left}
use native.Mathlib.Decide.{dec_le}
use Rattle.std.proofs.lemmas.List.{at_drop_more, at_drop_all}
use Rattle.std.proofs.lemmas.Bool.Decides.{nat_tests}
use Rattle.std.specs.declared.alloc.Global.{Global}
use Rattle.std.specs.declared.vec.Vec.{Vec}
use Rattle.std.specs.declared.boxed.Box.{Box}
use Rattle.ere.specs.declared.tree.Ere.{Ere}
use Rattle.ere.specs.declared.tree.Ere.TheVariants.{Empty, Set, Start, End, Cat, Alt, Repeat}
use Rattle.ere.specs.Tree.{Tree, empty, set, at_start, at_end, cat, alt, repeat, Trees, none, more, trees_of, form}
use Rattle.ere.proofs.Forms.{form-Empty, form-Set, form-Start, form-End, form-Cat, form-Alt, form-Repeat}
use Rattle.ere.specs.Limits.{height, highest, leaves, leaves_in, copies_counted, AreProper, HasTwo, IsProper}

-- the plain trees of members
abbrev pub forms : List Ere → Trees
forms members = trees_of (map form members)

-- The members from one on are that member and those after it.
pub forms_back : (members : List Ere) (i : ℕ) (x : Ere) → 0 < i → i ≤ length members → x ≡ get_or members (i - 1) x
    → forms (drop (i - 1) members) ≡ more (form x) (forms (drop i members))
forms_back members i x above within read =
    let same : i - 1 + 1 ≡ i = omega arith in
    at_drop_more forms members (i - 1) x (omega arith) ∙ ap (λ k. forms (get_or members (i - 1) x ∷ drop k members)) same
    ∙ ap (λ y. more (form y) (forms (drop i members))) (sym read)

pub forms_end : (members : List Ere) → forms (drop (length members) members) ≡ none
forms_end members = at_drop_all forms members (length members) (omega arith)

pub height-Empty : (e : Ere) → e ≡ Empty → height (form e) ≡ 1
unfolding height
height-Empty e h = rw (h, form-Empty) refl

pub height-Set : (e : Ere) (members : List Bool) → e ≡ Set members → height (form e) ≡ 1
unfolding height
height-Set e members h = rw (h, form-Set members) refl

pub height-Start : (e : Ere) → e ≡ Start → height (form e) ≡ 1
unfolding height
height-Start e h = rw (h, form-Start) refl

pub height-End : (e : Ere) → e ≡ End → height (form e) ≡ 1
unfolding height
height-End e h = rw (h, form-End) refl

pub height-Cat : (e : Ere) (members : Vec Ere Global) → e ≡ Cat members → height (form e) ≡ highest (forms members.items) + 1
unfolding height
height-Cat e members h = rw (h, form-Cat members) refl

pub height-Alt : (e : Ere) (members : Vec Ere Global) → e ≡ Alt members → height (form e) ≡ highest (forms members.items) + 1
unfolding height
height-Alt e members h = rw (h, form-Alt members) refl

pub height-Repeat : (e : Ere) (body : Box Ere Global) (least : ℕ) (greatest : Option ℕ) → e ≡ Repeat body least greatest
    → height (form e) ≡ height (form body.value) + 1
unfolding height
height-Repeat e body least greatest h = rw (h, form-Repeat body least greatest) refl

pub highest-more : (tree : Tree) (trees : Trees) → highest (more tree trees) ≡ max (height tree) (highest trees)
unfolding highest
highest-more tree trees = refl

pub leaves-Empty : (e : Ere) → e ≡ Empty → leaves (form e) ≡ 1
unfolding leaves
leaves-Empty e h = rw (h, form-Empty) refl

pub leaves-Set : (e : Ere) (members : List Bool) → e ≡ Set members → leaves (form e) ≡ 1
unfolding leaves
leaves-Set e members h = rw (h, form-Set members) refl

pub leaves-Start : (e : Ere) → e ≡ Start → leaves (form e) ≡ 1
unfolding leaves
leaves-Start e h = rw (h, form-Start) refl

pub leaves-End : (e : Ere) → e ≡ End → leaves (form e) ≡ 1
unfolding leaves
leaves-End e h = rw (h, form-End) refl

pub leaves-Cat : (e : Ere) (members : Vec Ere Global) → e ≡ Cat members → leaves (form e) ≡ leaves_in (forms members.items)
unfolding leaves
leaves-Cat e members h = rw (h, form-Cat members) refl

pub leaves-Alt : (e : Ere) (members : Vec Ere Global) → e ≡ Alt members → leaves (form e) ≡ leaves_in (forms members.items)
unfolding leaves
leaves-Alt e members h = rw (h, form-Alt members) refl

pub leaves-Repeat : (e : Ere) (body : Box Ere Global) (least : ℕ) (greatest : Option ℕ) → e ≡ Repeat body least greatest
    → leaves (form e) ≡ copies_counted least greatest * leaves (form body.value)
unfolding leaves
leaves-Repeat e body least greatest h = rw (h, form-Repeat body least greatest) refl

pub leaves_in-more : (tree : Tree) (trees : Trees) → leaves_in (more tree trees) ≡ leaves tree + leaves_in trees
unfolding leaves_in
leaves_in-more tree trees = refl

pub leaves_in-none : leaves_in none ≡ 0
unfolding leaves_in
leaves_in-none = refl

pub copies_positive : (least : ℕ) (greatest : Option ℕ) → 0 < copies_counted least greatest
copies_positive least (Some greatest) = omega arith
copies_positive least None = omega arith

-- A factor can be capped at the bound before the product is.
pub capped_product : (copies l bound : ℕ) → 0 < copies → min (copies * min l bound) bound ≡ min (copies * l) bound
capped_product copies l bound h = go (dec_le l bound)
  where
    go : Dec (l ≤ bound) → min (copies * min l bound) bound ≡ min (copies * l) bound
    go (yes within) = let e : min l bound ≡ l = omega arith in rw e refl
    go (no above) =
        let e : min l bound ≡ bound = omega arith in
        let once : bound * 1 ≤ bound * copies = mul-le-mul_left bound h in
        let more : copies * bound ≤ copies * l = mul-le-mul_left copies (omega arith) in
        rw e (omega arith)

pub proper-Empty : (e : Ere) → e ≡ Empty → IsTrue true ↔ IsProper (form e)
unfolding IsProper
proper-Empty e h = rw (h, form-Empty) (λ _. tt, λ _. refl)

pub proper-Set : (e : Ere) (members : List Bool) → e ≡ Set members → IsTrue true ↔ IsProper (form e)
unfolding IsProper
proper-Set e members h = rw (h, form-Set members) (λ _. tt, λ _. refl)

pub proper-Start : (e : Ere) → e ≡ Start → IsTrue true ↔ IsProper (form e)
unfolding IsProper
proper-Start e h = rw (h, form-Start) (λ _. tt, λ _. refl)

pub proper-End : (e : Ere) → e ≡ End → IsTrue true ↔ IsProper (form e)
unfolding IsProper
proper-End e h = rw (h, form-End) (λ _. tt, λ _. refl)

pub has_two : (members : List Ere) → 2 ≤ length members → HasTwo (forms members)
has_two [] h = absurd (omega (arith, h))
has_two (a ∷ []) h = absurd (omega (arith, h))
has_two (a ∷ b ∷ members) h = tt

pub two_of : (members : List Ere) → HasTwo (forms members) → 2 ≤ length members
two_of [] h = absurd h
two_of (a ∷ []) h = absurd h
two_of (a ∷ b ∷ members) h = omega arith

pub proper-Cat : (e : Ere) (members : Vec Ere Global) (n : ℕ) (r : Bool) → e ≡ Cat members → n ≡ length members.items → 2 ≤ n
    → IsTrue r ↔ AreProper (forms members.items) → IsTrue r ↔ IsProper (form e)
unfolding IsProper
proper-Cat e members n r h len two known = rw (h, form-Cat members) (λ t. (has_two members.items (omega arith), known.0 t), λ p. known.1 p.1)

pub proper-Alt : (e : Ere) (members : Vec Ere Global) (n : ℕ) (r : Bool) → e ≡ Alt members → n ≡ length members.items → 2 ≤ n
    → IsTrue r ↔ AreProper (forms members.items) → IsTrue r ↔ IsProper (form e)
unfolding IsProper
proper-Alt e members n r h len two known = rw (h, form-Alt members) (λ t. (has_two members.items (omega arith), known.0 t), λ p. known.1 p.1)

pub few-Cat : (e : Ere) (members : Vec Ere Global) (n : ℕ) → e ≡ Cat members → n ≡ length members.items → n < 2 → IsTrue (leb 2 n) ↔ IsProper (form e)
unfolding IsProper
few-Cat e members n h len few =
    rw (h, form-Cat members)
    (λ t. absurd (grind (arith, nat_tests)), λ p. let two = two_of members.items p.0 in absurd (omega (arith, two)))

pub few-Alt : (e : Ere) (members : Vec Ere Global) (n : ℕ) → e ≡ Alt members → n ≡ length members.items → n < 2 → IsTrue (leb 2 n) ↔ IsProper (form e)
unfolding IsProper
few-Alt e members n h len few =
    rw (h, form-Alt members)
    (λ t. absurd (grind (arith, nat_tests)), λ p. let two = two_of members.items p.0 in absurd (omega (arith, two)))

pub proper-Repeat : (e : Ere) (body : Box Ere Global) (least : ℕ) (greatest : Option ℕ) (ordered r : Bool) → e ≡ Repeat body least greatest
    → IsTrue ordered ↔ IfSome greatest (λ most. least ≤ most) → IsTrue ordered → IsTrue r ↔ IsProper (form body.value)
    → IsTrue r ↔ IsProper (form e)
unfolding IsProper
proper-Repeat e body least greatest ordered r h by known_order known =
    rw (h, form-Repeat body least greatest) (λ t. (by.0 known_order, known.0 t), λ p. known.1 p.1)

pub unordered-Repeat : (e : Ere) (body : Box Ere Global) (least : ℕ) (greatest : Option ℕ) (ordered : Bool) → e ≡ Repeat body least greatest
    → IsTrue ordered ↔ IfSome greatest (λ most. least ≤ most) → ordered ≡ false → IsTrue ordered ↔ IsProper (form e)
unfolding IsProper
unordered-Repeat e body least greatest ordered h by failed = rw (h, form-Repeat body least greatest) (λ t. absurd (cc), λ p. by.1 p.0)

pub proper-none : IsTrue true ↔ AreProper none
unfolding AreProper
proper-none = (λ _. tt, λ _. refl)

pub proper-more : (tree : Tree) (trees : Trees) (first rest : Bool) → IsTrue first ↔ IsProper tree → IsTrue rest ↔ AreProper trees
    → IsTrue first → IsTrue rest ↔ AreProper (more tree trees)
unfolding AreProper
proper-more tree trees first rest one others held = (λ t. (one.0 held, others.0 t), λ p. others.1 p.1)

pub improper-more : (tree : Tree) (trees : Trees) (first : Bool) → IsTrue first ↔ IsProper tree → first ≡ false → IsTrue first ↔ AreProper (more tree trees)
unfolding AreProper
improper-more tree trees first one failed = (λ t. absurd (cc), λ p. one.1 p.0)

pub height-positive : (tree : Tree) → 0 < height tree
unfolding height
height-positive empty = omega arith
height-positive (set members) = omega arith
height-positive at_start = omega arith
height-positive at_end = omega arith
height-positive (cat members) = omega arith
height-positive (alt members) = omega arith
height-positive (repeat body least greatest) = omega arith

pub never_low : (height most : ℕ) → 0 < height → most ≡ 0 → false ≡ nat_le height most
never_low height most some e = let high : most < height = omega arith in grind (arith, nat_tests)

pub leaf_low : (height most : ℕ) → height ≡ 1 → (most ≡ 0 → ⊥) → true ≡ nat_le height most
leaf_low height most e some = let low : height ≤ most = omega (arith, some, e) in grind (arith, nat_tests)

-- what is inside a tree must be lower by one
pub inside_low : (inside whole most : ℕ) → whole ≡ inside + 1 → (most ≡ 0 → ⊥) → nat_le inside (most - 1) ≡ nat_le whole most
inside_low inside whole most e some = go (nat_le whole most) refl
  where
    go : (t : Bool) → nat_le whole most ≡ t → nat_le inside (most - 1) ≡ t
    go true is = let low : whole ≤ most = grind (arith, nat_tests) in let less : inside ≤ most - 1 = omega (arith, e) in grind (arith, nat_tests)
    go false is = let high : most < whole = grind (arith, nat_tests) in let more : most - 1 < inside = omega (arith, e, some) in grind (arith, nat_tests)

-- one more member, which is low
pub member_low : (one others most : ℕ) (low next : Bool) → next ≡ nat_le one most → next ≡ true → low ≡ nat_le others most
    → low ≡ nat_le (max one others) most
member_low one others most low next e held is = is ∙ go (nat_le others most) refl
  where
    below : one ≤ most
    below = let test : nat_le one most ≡ true = sym e ∙ held in grind (arith, nat_tests)

    go : (t : Bool) → nat_le others most ≡ t → t ≡ nat_le (max one others) most
    go true h = let rest : others ≤ most = grind (arith, nat_tests) in let all : max one others ≤ most = omega (arith, below, rest) in grind (arith, nat_tests)
    go false h = let rest : most < others = grind (arith, nat_tests) in let some : most < max one others = omega (arith, rest) in grind (arith, nat_tests)

-- one more member, which is too high
pub member_high : (one others most : ℕ) (next : Bool) → next ≡ nat_le one most → next ≡ false → next ≡ nat_le (max one others) most
member_high one others most next e not =
    let test : nat_le one most ≡ false = sym e ∙ not in
    let above : most < one = grind (arith, nat_tests) in
    let some : most < max one others = omega (arith, above) in
    let whole : nat_le (max one others) most ≡ false = grind (arith, nat_tests) in
    not ∙ sym whole

-- nothing is low
pub nothing_low : (most : ℕ) → true ≡ nat_le 0 most
nothing_low most = let low : 0 ≤ most = omega arith in grind (arith, nat_tests)

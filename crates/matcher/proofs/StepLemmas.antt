-- Steps of the matcher, variant by variant.
use Rattle.std.proofs.Common.{◌≡◌, ℕ, ◌+◌, ◌-◌, ◌*◌, ◌≤◌, Bool, true, false, ◌||◌, List, map, min, Some, None, refl, ap, arith}
use Rattle.std.proofs.Math.Nat.{mul-le-mul_left}
use native.Mathlib.Decide.{dec_le}
use Rattle.std.specs.declared.alloc.Global.{Global}
use Rattle.std.specs.declared.vec.Vec.{Vec}
use Rattle.std.specs.declared.boxed.Box.{Box}
use Rattle.ere.specs.declared.tree.Ere.{Ere}
use Rattle.ere.specs.declared.tree.Ere.TheVariants.{Empty, Set, Start, End, Cat, Alt, Repeat}
use Rattle.ere.specs.Tree.{Tree, Trees, none, more, trees_of, form}
use Rattle.ere.proofs.Forms.{form-Empty, form-Set, form-Start, form-End, form-Cat, form-Alt, form-Repeat}
use Rattle.matcher.specs.StarHeight.{is_set}
use Rattle.matcher.specs.Steps.{steps, steps_in, goes_far, some_go_far, rounds_of}

-- the plain trees of members
abbrev pub forms : List Ere → Trees
forms members = trees_of (map form members)

pub steps-Empty : (e : Ere) → e ≡ Empty → steps (form e) ≡ 1
unfolding steps
steps-Empty e h = rw (h, form-Empty) refl

pub steps-Set : (e : Ere) (members : List Bool) → e ≡ Set members → steps (form e) ≡ 1
unfolding steps
steps-Set e members h = rw (h, form-Set members) refl

pub steps-Start : (e : Ere) → e ≡ Start → steps (form e) ≡ 1
unfolding steps
steps-Start e h = rw (h, form-Start) refl

pub steps-End : (e : Ere) → e ≡ End → steps (form e) ≡ 1
unfolding steps
steps-End e h = rw (h, form-End) refl

pub steps-Cat : (e : Ere) (members : Vec Ere Global) → e ≡ Cat members → steps (form e) ≡ steps_in (forms members.items)
unfolding steps
steps-Cat e members h = rw (h, form-Cat members) refl

pub steps-Alt : (e : Ere) (members : Vec Ere Global) → e ≡ Alt members → steps (form e) ≡ steps_in (forms members.items)
unfolding steps
steps-Alt e members h = rw (h, form-Alt members) refl

pub steps-Some : (e : Ere) (body : Box Ere Global) (least most : ℕ) → e ≡ Repeat body least (Some most)
    → steps (form e) ≡ most * steps (form body.value)
unfolding steps
steps-Some e body least most h = rw (h, form-Repeat body least (Some most)) refl

pub steps-of_set : (e : Ere) (body : Box Ere Global) (least : ℕ) → e ≡ Repeat body least None → is_set (form body.value) ≡ true
    → steps (form e) ≡ 1
unfolding steps
steps-of_set e body least h is = rw (h, form-Repeat body least None, is) refl

pub steps-of_star : (e : Ere) (body : Box Ere Global) (least : ℕ) → e ≡ Repeat body least None → is_set (form body.value) ≡ false
    → steps (form e) ≡ rounds_of (form body.value) * steps (form body.value)
unfolding steps
steps-of_star e body least h is = rw (h, form-Repeat body least None, is) refl

pub steps_in-more : (tree : Tree) (trees : Trees) → steps_in (more tree trees) ≡ steps tree + steps_in trees
unfolding steps_in
steps_in-more tree trees = refl

pub steps_in-none : steps_in none ≡ 0
unfolding steps_in
steps_in-none = refl

-- A factor can be capped at the bound before the product is, also if there are no copies.
pub capped_any : (copies l bound : ℕ) → min (copies * min l bound) bound ≡ min (copies * l) bound
capped_any copies l bound = go (dec_le 1 copies)
  where
    go : Dec (1 ≤ copies) → min (copies * min l bound) bound ≡ min (copies * l) bound
    go (yes some) = within (dec_le l bound)
      where
        within : Dec (l ≤ bound) → min (copies * min l bound) bound ≡ min (copies * l) bound
        within (yes low) = let e : min l bound ≡ l = omega arith in rw e refl
        within (no above) =
            let e : min l bound ≡ bound = omega arith in
            let once : bound * 1 ≤ bound * copies = mul-le-mul_left bound some in
            let more : copies * bound ≤ copies * l = mul-le-mul_left copies (omega arith) in
            rw e (omega arith)
    go (no above) = let zero_copies : copies ≡ 0 = omega (arith, above) in rw zero_copies (omega arith)

pub goes_far-Empty : (e : Ere) → e ≡ Empty → goes_far (form e) ≡ false
unfolding goes_far
goes_far-Empty e h = rw (h, form-Empty) refl

pub goes_far-Set : (e : Ere) (members : List Bool) → e ≡ Set members → goes_far (form e) ≡ false
unfolding goes_far
goes_far-Set e members h = rw (h, form-Set members) refl

pub goes_far-Start : (e : Ere) → e ≡ Start → goes_far (form e) ≡ false
unfolding goes_far
goes_far-Start e h = rw (h, form-Start) refl

pub goes_far-End : (e : Ere) → e ≡ End → goes_far (form e) ≡ true
unfolding goes_far
goes_far-End e h = rw (h, form-End) refl

pub goes_far-Cat : (e : Ere) (members : Vec Ere Global) → e ≡ Cat members → goes_far (form e) ≡ some_go_far (forms members.items)
unfolding goes_far
goes_far-Cat e members h = rw (h, form-Cat members) refl

pub goes_far-Alt : (e : Ere) (members : Vec Ere Global) → e ≡ Alt members → goes_far (form e) ≡ some_go_far (forms members.items)
unfolding goes_far
goes_far-Alt e members h = rw (h, form-Alt members) refl

pub goes_far-None : (e : Ere) (body : Box Ere Global) (least : ℕ) → e ≡ Repeat body least None → goes_far (form e) ≡ true
unfolding goes_far
goes_far-None e body least h = rw (h, form-Repeat body least None) refl

pub goes_far-Some : (e : Ere) (body : Box Ere Global) (least most : ℕ) → e ≡ Repeat body least (Some most)
    → goes_far (form e) ≡ goes_far (form body.value)
unfolding goes_far
goes_far-Some e body least most h = rw (h, form-Repeat body least (Some most)) refl

pub some_go_far-more : (tree : Tree) (trees : Trees) → some_go_far (more tree trees) ≡ (goes_far tree || some_go_far trees)
unfolding some_go_far
some_go_far-more tree trees = refl

pub some_go_far-none : some_go_far none ≡ false
unfolding some_go_far
some_go_far-none = refl

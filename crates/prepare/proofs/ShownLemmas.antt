-- The tree whose matches are shown.
use Rattle.std.proofs.Common.{◌≡◌, ◌<◌, List, [], ◌∷◌, map, length, refl, sym, ◌∙◌, ap, arith}
use Rattle.std.specs.declared.alloc.Global.{Global}
use Rattle.std.specs.declared.vec.Vec.{Vec}
use Rattle.ere.specs.Limits.{AreProper, height, highest, IsProper, IsWithinLimits, leaves, leaves_in}
use Rattle.ere.specs.Tree.{Tree, empty, set, at_start, at_end, cat, alt, repeat, none, more, trees_of, form}
use Rattle.ere.specs.declared.tree.Ere.{Ere}
use Rattle.ere.specs.declared.tree.Ere.TheVariants.{Cat}
use Rattle.ere.proofs.Forms.{form-Cat}
use Rattle.prepare.specs.Prepared.{inside, second}

pub no_second : (trees : List Ere) (otherwise : Tree) → length trees < 2 → otherwise ≡ second (trees_of (map form trees)) otherwise
no_second [] otherwise few = refl
no_second (first ∷ []) otherwise few = refl
no_second (first ∷ tree ∷ trees) otherwise few = absurd (omega (arith, few))

pub inside_cat : (tree : Ere) (members : Vec Ere Global) (shown : List Ere) → tree ≡ Cat members → shown ≡ members.items
    → second (trees_of (map form shown)) (form tree) ≡ inside (form tree)
inside_cat tree members shown is same =
    let made = ap form is ∙ form-Cat members in
    ap (λ ms. second (trees_of (map form ms)) (form tree)) same
    ∙ (ap (second (trees_of (map form members.items))) made ∙ sym (ap inside made))

pub inside_within : (tree : Tree) → IsWithinLimits tree → IsWithinLimits (inside tree)
unfolding IsProper AreProper height highest leaves leaves_in
inside_within empty within = within
inside_within (set members) within = within
inside_within at_start within = within
inside_within at_end within = within
inside_within (cat none) within = within
inside_within (cat (more first none)) within = within
inside_within (cat (more first (more tree trees))) within =
    record { proper = within.proper.1.1.0; low = omega (arith, within.low); small = omega (arith, within.small) }
inside_within (alt members) within = within
inside_within (repeat body least greatest) within = within

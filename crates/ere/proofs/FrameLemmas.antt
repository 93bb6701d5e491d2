-- Trees of two or three members, and the limits.
use Rattle.std.proofs.Common.{◌≡◌, ℕ, ◌<◌, ◌≤◌, Bool, true, false, List, [], ◌∷◌, ◌++◌, min, nat_le, ap, ◌∙◌, sym, arith}
use Rattle.std.proofs.lemmas.Bool.Decides.{nat_tests}
use Rattle.ere.specs.declared.error.EreError.{EreError}
use Rattle.ere.specs.declared.error.EreErrorKind.TheVariants.{TooDeep, TooLarge}
use Rattle.ere.specs.declared.tree.Ere.{Ere}
use Rattle.ere.specs.declared.tree.Ere.TheVariants.{Start, End}
use Rattle.ere.specs.Edges.{between_words, IsSizeFault}
use Rattle.ere.specs.Edges.{IsSizeFault as fault}
use Rattle.ere.specs.Limits.{height, leaves, AreProper, IsProper, IsWithinLimits}
use Rattle.ere.specs.Tree.{Tree, alt, cat, form, more, none}
use Rattle.ere.proofs.Forms.{form-Start, form-End}
use Rattle.ere.proofs.Sizes.{forms}

pub forms_two : (empty one two : List Ere) (a b : Ere) → empty ≡ [] → one ≡ empty ++ a ∷ [] → two ≡ one ++ b ∷ []
    → forms two ≡ more (form a) (more (form b) none)
forms_two empty one two a b e0 e1 e2 = ap forms (e2 ∙ ap (λ t. t ++ b ∷ []) (e1 ∙ ap (λ t. t ++ a ∷ []) e0))

pub forms_three : (empty one two three : List Ere) (a b c : Ere) → empty ≡ [] → one ≡ empty ++ a ∷ [] → two ≡ one ++ b ∷ [] → three ≡ two ++ c ∷ []
    → forms three ≡ more (form a) (more (form b) (more (form c) none))
forms_three empty one two three a b c e0 e1 e2 e3 = ap forms (e3 ∙ ap (λ t. t ++ c ∷ []) (e2 ∙ ap (λ t. t ++ b ∷ []) (e1 ∙ ap (λ t. t ++ a ∷ []) e0)))

pub proper-three : (a b c : Tree) → IsProper a → IsProper b → IsProper c → IsProper (cat (more a (more b (more c none))))
unfolding IsProper AreProper
proper-three a b c p q r = (tt, (p, (q, (r, tt))))

pub proper-edge : (anchor : Tree) → IsProper anchor → IsProper (alt (more anchor (more between_words none)))
unfolding IsProper AreProper
proper-edge anchor p = (tt, (p, (tt, tt)))

pub proper_start : IsProper (form Start)
unfolding IsProper
proper_start = rw form-Start tt

pub proper_end : IsProper (form End)
unfolding IsProper
proper_end = rw form-End tt

-- what the two tests say of a tree
pub within : (tree : Tree) (low : Bool) (count : ℕ) → IsProper tree → low ≡ nat_le (height tree) 64 → low ≡ true → count ≡ min (leaves tree) 4097
    → count ≤ 4096 → IsWithinLimits tree
within tree low count proper test held counted few =
    let fits : nat_le (height tree) 64 ≡ true = sym test ∙ held in record { proper = proper; low = grind (arith, nat_tests); small = omega arith }

pub too_high : (tree : Tree) (low : Bool) (error : EreError) → low ≡ nat_le (height tree) 64 → low ≡ false → error.kind ≡ TooDeep → error.at ≡ 0
    → IsSizeFault tree error
too_high tree low error test failed kind at =
    let fails : nat_le (height tree) 64 ≡ false = sym test ∙ failed in
    let high : 64 < height tree = grind (arith, nat_tests) in
    fault.too_deep high kind at

pub too_many : (tree : Tree) (low : Bool) (count : ℕ) (error : EreError) → low ≡ nat_le (height tree) 64 → low ≡ true → count ≡ min (leaves tree) 4097
    → 4096 < count → error.kind ≡ TooLarge → error.at ≡ 0 → IsSizeFault tree error
too_many tree low count error test held counted many kind at =
    let fits : nat_le (height tree) 64 ≡ true = sym test ∙ held in
    let is_low : height tree ≤ 64 = grind (arith, nat_tests) in
    let is_large : 4096 < leaves tree = omega arith in
    fault.too_large is_low is_large kind at

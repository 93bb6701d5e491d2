use Rattle.std.proofs.Common.{◌≡◌, ℕ, zero, suc, List, [], ◌++◌, None, ◌⊎◌, inl, inr, arith}
use Rattle.ere.specs.Language.{InLanguage, InCopies}
use Rattle.ere.specs.Tree.{Tree, repeat}
use Rattle.ere.proofs.laws.star_unrolls.Goals as goal

abbrev Unrolled : Tree → List ℕ → List ℕ → List ℕ → Type 0
Unrolled body before word after =
    (word ≡ [])
    ⊎ ((front back : List ℕ) × (word ≡ front ++ back) × InLanguage (repeat body 0 None) before front (back ++ after)
    × InLanguage body (before ++ front) back after)

unroll : (body : Tree) (before word after : List ℕ) (count : ℕ) → InCopies (InLanguage body) count before word after → Unrolled body before word after
unfolding InLanguage InCopies
unroll body before word after zero h = inl h
unroll body before word after (suc count) h = inr (h.0, h.1, h.2, (count, omega arith, tt, h.3), h.4)

roll : (body : Tree) (before word after : List ℕ) → Unrolled body before word after → InLanguage (repeat body 0 None) before word after
unfolding InLanguage InCopies
roll body before word after (inl e) = (zero, omega arith, tt, e)
roll body before word after (inr h) = (suc h.3.0, omega arith, tt, (h.0, h.1, h.2, h.3.3, h.4))

pub returns : goal.returns
unfolding InLanguage
returns c = λ body before word after. (λ h. unroll body before word after h.0 h.3, λ h. roll body before word after h)

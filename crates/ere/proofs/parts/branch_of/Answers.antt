use Rattle.std.proofs.Common.{ap, arith, sym, ◌∙◌, subst, Some}
use Rattle.ere.proofs.Forms.{form-Empty, form-Cat}
use Rattle.ere.specs.Tree.{cat}
use Rattle.ere.specs.Limits.{height}
use Rattle.ere.specs.Spelling.{branch_of}
use Rattle.ere.specs.Private.Reading.{AreBuilt, IsBuilt}
use Rattle.ere.proofs.PartLemmas.{branch_none, just_one, branch_cat, high_branch, height_empty, height_cat}
use Rattle.ere.proofs.parts.branch_of.Goals as goal

pub returns-in_default : goal.returns-in_default
returns-in_default c = λ trees built. high_branch trees (subst (λ m. AreBuilt m trees) c.in_default.is built)

pub returns-in-0 : goal.returns-in-0
returns-in-0 c = λ trees built.
    let kept = subst (λ m. AreBuilt m trees) c.in-Some.is built in
    let is = branch_none c.in-Some.pieces.trees.items trees kept.0 (omega (arith, c.in-Some.pieces.trees.ok.0)) in
    c.leaf.ensures (branch_of trees) (form-Empty ∙ sym is) (ap height is ∙ height_empty)

pub returns-in-1 : goal.returns-in-1
returns-in-1 c = λ trees built.
    let kept = subst (λ m. AreBuilt m trees) c.in-Some.is built in
    let one = just_one c.in-Some.pieces.trees.items trees kept.0 (omega (arith, c.in-Some.pieces.trees.ok.0)) in
    subst (λ t. IsBuilt c.only.result t) (ap branch_of (sym one.1)) (c.only.ensures one.0 (subst (λ t. AreBuilt (Some c.in-Some.pieces) t) one.1 kept))

pub returns-in_default-len : goal.returns-in_default-len
returns-in_default-len c = λ trees built.
    let kept = subst (λ m. AreBuilt m trees) c.in-Some.is built in
    let is = branch_cat c.in-Some.pieces.trees.items trees kept.0 (omega (arith, c.in-Some.pieces.trees.ok.0)) (omega (arith, c.in-Some.pieces.trees.ok.0)) in
    c.higher.ensures (branch_of trees) (form-Cat c.in-Some.pieces.trees ∙ ap cat kept.0 ∙ sym is) (ap height is ∙ height_cat trees ∙ omega (arith, kept.1))

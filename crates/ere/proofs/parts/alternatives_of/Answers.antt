use Rattle.std.proofs.Common.{ap, arith, sym, ◌∙◌, subst, Some}
use Rattle.ere.proofs.Forms.{form-Alt}
use Rattle.ere.specs.Tree.{alt}
use Rattle.ere.specs.Limits.{height}
use Rattle.ere.specs.Spelling.{alternatives_of}
use Rattle.ere.specs.Private.Reading.{AreBuilt, IsBuilt}
use Rattle.ere.proofs.PartLemmas.{just_one, alternatives_alt, high_alternatives, height_alt}
use Rattle.ere.proofs.parts.alternatives_of.Goals as goal

pub returns-in_default : goal.returns-in_default
returns-in_default c = λ trees built. high_alternatives trees (subst (λ m. AreBuilt m trees) c.in_default.is built)

pub returns-in-1 : goal.returns-in-1
returns-in-1 c = λ trees built.
    let kept = subst (λ m. AreBuilt m trees) c.in-Some.is built in
    let one = just_one c.in-Some.branches.trees.items trees kept.0 (omega (arith, c.in-Some.branches.trees.ok.0)) in
    subst (λ t. IsBuilt c.only.result t) (ap alternatives_of (sym one.1)) (c.only.ensures one.0 (subst (λ t. AreBuilt (Some c.in-Some.branches) t) one.1 kept))

pub returns-in_default-len : goal.returns-in_default-len
returns-in_default-len c = λ trees built.
    let kept = subst (λ m. AreBuilt m trees) c.in-Some.is built in
    let is = alternatives_alt c.in-Some.branches.trees.items trees kept.0 (omega (arith, c.in-Some.branches.trees.ok.0)) in
    c.higher.ensures (alternatives_of trees) (form-Alt c.in-Some.branches.trees ∙ ap alt kept.0 ∙ sym is)
    (ap height is ∙ height_alt trees ∙ omega (arith, kept.1))

use Rattle.std.proofs.Common.{ap, arith, ◌∙◌, subst}
use Rattle.ere.proofs.Forms.{form-Repeat}
use Rattle.ere.specs.Tree.{form, repeat}
use Rattle.ere.specs.Private.Reading.{IsBuilt}
use Rattle.ere.proofs.PartLemmas.{height_repeat}
use Rattle.ere.proofs.parts.repeat_of.Goals as goal

pub returns-in_default-clause-ok : goal.returns-in_default-clause-ok
returns-in_default-clause-ok c =
    λ tree built.
    let high = subst (λ m. IsBuilt m tree) c.in_default.is built in omega (arith, high, height_repeat tree c.args.least c.args.greatest)

pub returns-then-part-ge-MAX_HEIGHT-clause-ok : goal.returns-then-part-ge-MAX_HEIGHT-clause-ok
returns-then-part-ge-MAX_HEIGHT-clause-ok c = λ tree built.
    let kept = subst (λ m. IsBuilt m tree) c.in-Some.is built in
    omega (arith, kept.1, height_repeat tree c.args.least c.args.greatest, c.if-part-ge-MAX_HEIGHT.true)

pub returns-clause-ok : goal.returns-clause-ok
returns-clause-ok c = λ tree built.
    let kept = subst (λ m. IsBuilt m tree) c.in-Some.is built in (
      form-Repeat c.in_ok-body.body c.args.least c.args.greatest ∙ ap (λ t. repeat t c.args.least c.args.greatest) (ap form c.in_ok-body.ensures.ok ∙ kept.0),
      omega (arith, kept.1, height_repeat tree c.args.least c.args.greatest),
      omega (arith, c.if-part-ge-MAX_HEIGHT.false),
    )

use Rattle.std.proofs.Common.{ap, arith, ◌∙◌, subst}
use Rattle.ere.specs.Tree.{none, more, form}
use Rattle.ere.specs.Private.Reading.{join, AreBuilt, IsBuilt}
use Rattle.ere.proofs.Sizes.{forms}
use Rattle.ere.proofs.PartLemmas.{join-forms, highest-join}
use Rattle.ere.proofs.parts.with_member.Goals as goal

pub returns-in_default-clause-ok : goal.returns-in_default-clause-ok
returns-in_default-clause-ok c =
    λ trees tree built one. let high = subst (λ m. AreBuilt m trees) c.in_default.is built in omega (arith, high, highest-join trees tree)

pub returns-in_default-part-clause-ok : goal.returns-in_default-part-clause-ok
returns-in_default-part-clause-ok c =
    λ trees tree built one. let high = subst (λ m. IsBuilt m tree) c.in_default-part.is one in omega (arith, high, highest-join trees tree)

pub returns-clause-ok : goal.returns-clause-ok
returns-clause-ok c = λ trees tree built one.
    let all = subst (λ m. AreBuilt m trees) c.in-Some.is built in
    let new = subst (λ m. IsBuilt m tree) c.in-Some-part.is one in (
      ap forms c.in_ok-push.ensures.items ∙ join-forms c.in-Some.members.trees.items c.in-Some-part.part.tree
          ∙ ap (λ ts. join ts (more (form c.in-Some-part.part.tree) none)) all.0 ∙ ap (λ t. join trees (more t none)) new.0,
      omega (arith, highest-join trees tree, all.1, new.1, c.max.ensures),
      omega (arith, all.2, new.2, c.max.ensures),
    )

use Rattle.std.proofs.Common.{refl, not, ◌∙◌, ap, map}
use Rattle.std.proofs.lemmas.List.{map-append}
use Rattle.ere.specs.Tree.{form}
use Rattle.prepare.specs.Tests.{test_of}
use Rattle.prepare.proofs.requested.add_test.Goals as goal

pub returns-clause-test : goal.returns-clause-test
returns-clause-test c =
    let tree = form c.in_ok-tree.tree in (
      record { tree = tree; inverted = not c.args.name.now.wanted },
      (tree, c.in_ok-tree.ensures.tree, refl),
      ap (λ ts. map test_of ts) c.in_ok-push.ensures.items ∙ map-append test_of c.args.tests.now.items _,
    )

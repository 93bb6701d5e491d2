use Rattle.std.proofs.Common.{◌≡◌, ap, ◌∙◌, arith}
use Rattle.std.proofs.lemmas.Bool.Decides.{nat_tests}
use Rattle.ere.specs.Tree.{form}
use Rattle.ere.proofs.Forms.{form-Empty, form-Repeat}
use Rattle.matcher.proofs.Rounds.{empty_empty, empty_if}
use Rattle.matcher.proofs.trees.can_be_empty.Goals as goal

pub returns-in-Empty : goal.returns-in-Empty
returns-in-Empty c = λ held line place. rw (ap form c.in-Empty.is ∙ form-Empty) (empty_empty line place)

pub returns-in-Repeat : goal.returns-in-Repeat
returns-in-Repeat c = λ held line place.
    let none : c.in-Repeat.least ≡ 0 = grind (arith, nat_tests) in
    empty_if line (form c.in-Repeat._body.value) (form c.args.tree.now) c.in-Repeat.least c.in-Repeat._greatest
    (ap form c.in-Repeat.is ∙ form-Repeat c.in-Repeat._body c.in-Repeat.least c.in-Repeat._greatest) none place

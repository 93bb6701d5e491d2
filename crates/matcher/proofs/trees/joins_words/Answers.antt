use Rattle.std.proofs.Common.{ap, ◌∙◌}
use Rattle.ere.specs.Tree.{form}
use Rattle.ere.proofs.Forms.{form-Repeat}
use Rattle.matcher.proofs.Walks.{joins_if}
use Rattle.matcher.proofs.trees.joins_words.Goals as goal

pub returns-in-Repeat : goal.returns-in-Repeat
returns-in-Repeat c =
    λ joins line.
    joins_if line (form c.in-Repeat._body.value) (form c.args.tree.now) c.in-Repeat._least c.in-Repeat.greatest
    (ap form c.in-Repeat.is ∙ form-Repeat c.in-Repeat._body c.in-Repeat._least c.in-Repeat.greatest) c.is_none.result
    c.is_none.ensures joins

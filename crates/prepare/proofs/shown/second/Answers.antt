use Rattle.ere.specs.Tree.{form}
use Rattle.prepare.proofs.ShownLemmas.{no_second}
use Rattle.prepare.proofs.shown.second.Goals as goal

pub returns-in_default : goal.returns-in_default
returns-in_default c = no_second c.args.trees.now (form c.args.otherwise.now) c.in_default.len_below

use Rattle.ere.proofs.TreeLaws.{one_tree}
use Rattle.ere.proofs.laws.one_tree.Goals as goal

pub returns : goal.returns
returns c = one_tree

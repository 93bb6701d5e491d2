use Rattle.ere.proofs.TreeLaws.{tree_within}
use Rattle.ere.proofs.laws.tree_within_limits.Goals as goal

pub returns : goal.returns
returns c = tree_within

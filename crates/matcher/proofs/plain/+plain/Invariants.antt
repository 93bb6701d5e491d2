use Rattle.std.proofs.Common.{ℕ, ◌<◌, get_or}
use Rattle.ere.specs.declared.tree.Ere.{Ere}
use Rattle.ere.specs.Tree.{form}
use Rattle.matcher.specs.Private.Longer.{HoldsInLonger}
use Rattle.matcher.proofs.plain.+plain.Given as goal

abbrev pub invariant-are_plain-loop-member : goal.invariant-are_plain-loop-member
invariant-are_plain-loop-member l = (k : ℕ) (d : Ere) → k < l.member-index → HoldsInLonger (form (get_or l.members k d))

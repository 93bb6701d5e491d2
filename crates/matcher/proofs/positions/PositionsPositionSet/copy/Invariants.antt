use Rattle.matcher.proofs.Joining.{IsCopied}
use Rattle.matcher.proofs.positions.PositionsPositionSet.copy.Given as goal

abbrev pub invariant-loop-i : goal.invariant-loop-i
invariant-loop-i g l = IsCopied g.row.N l.self-inside.words l.other-inside.words l.i

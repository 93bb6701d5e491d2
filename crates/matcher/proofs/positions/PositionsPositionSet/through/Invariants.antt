use Rattle.matcher.proofs.Joining.{IsFilled}
use Rattle.matcher.proofs.positions.PositionsPositionSet.through.Given as goal

abbrev pub invariant-loop-i : goal.invariant-loop-i
invariant-loop-i g l = IsFilled g.row.N l.words l.i

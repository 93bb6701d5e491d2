use Rattle.matcher.specs.Private.Bounds.{IsBounded}
use Rattle.matcher.proofs.positions.PositionsPositionSet.clear.Given as goal

abbrev pub invariant-loop-i : goal.invariant-loop-i
invariant-loop-i g l = IsBounded g.row.N l.self-inside.words l.i l.i-end

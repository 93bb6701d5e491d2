use Rattle.matcher.proofs.Shifting.{IsShifted}
use Rattle.matcher.proofs.words.shift.Given as goal

abbrev pub invariant-loop-i : goal.invariant-loop-i
invariant-loop-i g l = IsShifted g.row.N l.members l.line l.initial.words l.words l.initial.i l.i l.carried

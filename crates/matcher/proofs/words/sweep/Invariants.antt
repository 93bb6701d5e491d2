use Rattle.matcher.proofs.Shifting.{IsSwept}
use Rattle.matcher.proofs.words.sweep.Given as goal

abbrev pub invariant-loop-i : goal.invariant-loop-i
invariant-loop-i g l = IsSwept g.row.N l.members l.line l.initial.words l.words l.initial.i l.i l.carried

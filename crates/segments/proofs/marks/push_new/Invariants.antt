use Rattle.segments.proofs.Marking.{IsMarkedUpTo}
use Rattle.segments.proofs.marks.push_new.Given as goal

abbrev pub invariant-loop-i : goal.invariant-loop-i
invariant-loop-i l = IsMarkedUpTo l.body l.place l.i l.initial.keys.items l.marks.items l.keys.items

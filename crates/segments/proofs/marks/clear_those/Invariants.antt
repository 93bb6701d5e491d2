use Rattle.std.proofs.Common.{drop}
use Rattle.segments.specs.Private.Marked.{AreMarksOf}
use Rattle.segments.proofs.marks.clear_those.Given as goal

abbrev pub invariant-loop-i : goal.invariant-loop-i
invariant-loop-i l = AreMarksOf (drop l.i l.keys) l.marks.items

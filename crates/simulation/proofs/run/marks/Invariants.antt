use Rattle.std.proofs.Common.{take}
use Rattle.simulation.specs.Private.Rows.{is_marked, IsMarked}
use Rattle.simulation.proofs.run.marks.Given as goal

abbrev pub invariant-loop-i : goal.invariant-loop-i
invariant-loop-i l = IsMarked l.found l.copies (is_marked l.mark) (take l.i l.row)

use Rattle.simulation.specs.Pending.{room}
use Rattle.simulation.specs.Private.Words.{AreWritten, shifted}
use Rattle.simulation.proofs.turns.shift_wide.Given as goal

abbrev pub invariant-loop-i : goal.invariant-loop-i
invariant-loop-i l = AreWritten l.out l.i (shifted (room l.entered) l.entered l.read)

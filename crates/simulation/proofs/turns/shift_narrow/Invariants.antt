use Rattle.simulation.proofs.Moving.{IsMoving}
use Rattle.simulation.proofs.turns.shift_narrow.Given as goal

abbrev pub invariant-loop-i : goal.invariant-loop-i
invariant-loop-i l = IsMoving l.stride l.entered l.read l.out l.i l.carried

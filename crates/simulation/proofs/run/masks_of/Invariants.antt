use Rattle.simulation.proofs.Masks.{AreMasksTo}
use Rattle.simulation.proofs.run.masks_of.Given as goal

abbrev pub invariant-loop-byte : goal.invariant-loop-byte
invariant-loop-byte l = AreMasksTo l.masks.items l.byte l.copies l.row

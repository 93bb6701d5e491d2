use Rattle.std.proofs.Common.{ℕ, ◌<◌, ◌↔◌, IsTrue}
use Rattle.ere.specs.Bits.{has_bit}
use Rattle.simulation.proofs.Folding.{AnyBeforeWord}
use Rattle.simulation.proofs.turns.any_word.Given as goal

abbrev pub invariant-loop-i : goal.invariant-loop-i
invariant-loop-i l = (b : ℕ) → b < 64 → IsTrue (has_bit l.found b) ↔ AnyBeforeWord l.from l.to l.i l.cells b

use Rattle.std.proofs.Common.{ℕ, ◌<◌, ◌≤◌, ◌↔◌, IsTrue}
use Rattle.ere.specs.Bits.{has_bit}
use Rattle.simulation.specs.Private.Words.{AnyPart}
use Rattle.simulation.proofs.Folding.{IsHalved}
use Rattle.simulation.proofs.turns.folded.Given as goal

abbrev pub invariant-loop-width : goal.invariant-loop-width
invariant-loop-width l =
    (l.width ≤ 64) × IsHalved l.stride l.width × ((k : ℕ) → k < l.width → IsTrue (has_bit l.found k) ↔ AnyPart l.word l.width k)

abbrev pub decreases-loop-width : goal.decreases-loop-width
decreases-loop-width l = l.width

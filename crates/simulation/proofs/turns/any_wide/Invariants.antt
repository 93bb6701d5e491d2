use Rattle.std.proofs.Common.{ℕ, ◌<◌, ◌≤◌, ◌↔◌, IsTrue, max}
use Rattle.simulation.specs.Pending.{at}
use Rattle.simulation.proofs.Moving.{AnyBefore}
use Rattle.simulation.proofs.turns.any_wide.Given as goal

abbrev pub invariant-loop-turn : goal.invariant-loop-turn
invariant-loop-turn l =
    (l.turn ≤ max l.initial.turn l.fn.counts.copies)
    × ((k : ℕ) → k < l.fn.counts.stride → IsTrue (at l.own k) ↔ AnyBefore l.fn.counts l.initial.turn l.turn l.read k)

use Rattle.std.proofs.Common.{ℕ, ◌<◌}
use Rattle.simulation.specs.Nodes.{shape}
use Rattle.simulation.specs.Private.Reading.{Ends, IsReadTo}
use Rattle.simulation.proofs.ends.next_end.Given as goal

abbrev pub invariant-loop-here : goal.invariant-loop-here
invariant-loop-here g l = record {
  read : IsReadTo l.line l.here (shape l.node) l.wanted l.cells;
  none : (other : ℕ) → l.from < other → Ends l.line (shape l.node) l.wanted other → l.here < other;
}

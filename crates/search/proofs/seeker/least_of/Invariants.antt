use Rattle.std.proofs.Common.{◌-◌, ◌≤◌}
use Rattle.ere.specs.Tree.{Tree}
use Rattle.simulation.specs.Simulations.{IsSimulationOf}
use Rattle.spans.specs.Passes.{SomeSpanBegins}
use Rattle.search.proofs.SeekerLemmas.{IsHalved}
use Rattle.search.proofs.seeker.least_of.Given as goal

abbrev pub invariant-loop-high : goal.invariant-loop-high
invariant-loop-high g l = record {
  same : (tree : Tree) → IsSimulationOf tree l.initial.simulation → IsSimulationOf tree l.simulation;
  ordered : l.low ≤ l.high;
  halved : (tree : Tree) → IsSimulationOf tree l.initial.simulation → SomeSpanBegins l.line tree l.whole_words l.from l.past
      → IsHalved l.line tree l.whole_words l.from l.past l.low l.high;
}

abbrev pub decreases-loop-high : goal.decreases-loop-high
decreases-loop-high g l = l.high - l.low

use Rattle.std.proofs.Common.{◌-◌, ◌≤◌, ◌<◌}
use Rattle.ere.specs.Tree.{Tree}
use Rattle.simulation.specs.Simulations.{IsSimulationOf}
use Rattle.spans.specs.Passes.{NoSpanBegins}
use Rattle.search.proofs.seeker.least_start.Given as goal

abbrev pub invariant-loop-first : goal.invariant-loop-first
invariant-loop-first g l = record {
  same : (tree : Tree) → IsSimulationOf tree l.initial.simulation → IsSimulationOf tree l.simulation;
  after : l.from ≤ l.first;
  none : (tree : Tree) → IsSimulationOf tree l.initial.simulation → NoSpanBegins l.line tree l.whole_words l.from l.first;
  wide : 0 < l.width;
}

abbrev pub decreases-loop-first : goal.decreases-loop-first
decreases-loop-first g l = l.past - l.first

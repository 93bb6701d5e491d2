use Rattle.std.proofs.Common.{◌-◌, ◌≤◌}
use Rattle.ere.specs.Tree.{Tree}
use Rattle.engine.specs.Patterns.{IsFinderOf}
use Rattle.simulation.specs.Simulations.{IsSimulationOf}
use Rattle.spans.specs.Passes.{NoSpanBegins}
use Rattle.search.proofs.seeker.try_each.Given as goal

abbrev pub invariant-loop-tries : goal.invariant-loop-tries
invariant-loop-tries g l = record {
  finder : (tree : Tree) → IsFinderOf tree l.initial.finder → IsFinderOf tree l.finder;
  simulation : (tree : Tree) → IsSimulationOf tree l.initial.simulation → IsSimulationOf tree l.simulation;
  few : l.tries ≤ 4;
  none : (tree : Tree) → IsFinderOf tree l.initial.finder → IsSimulationOf tree l.initial.simulation
      → (l.from ≤ l.next) × NoSpanBegins l.line tree l.whole_words l.from l.next;
}

abbrev pub decreases-loop-tries : goal.decreases-loop-tries
decreases-loop-tries g l = 4 - l.tries

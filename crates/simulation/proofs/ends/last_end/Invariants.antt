use Rattle.std.proofs.Common.{◌-◌, length}
use Rattle.simulation.specs.Nodes.{shape}
use Rattle.simulation.specs.Private.Reading.{Ends, IsReadTo}
use Rattle.simulation.proofs.ends.last_end.Given as goal

abbrev pub invariant-loop-end : goal.invariant-loop-end
invariant-loop-end g l = record {
  read : IsReadTo l.line l.last (shape l.node) l.wanted l.cells;
  ends : Ends l.line (shape l.node) l.wanted l.last;
}

abbrev pub decreases-loop-end : goal.decreases-loop-end
decreases-loop-end g l = length l.line - l.last

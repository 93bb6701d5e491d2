-- Which tree a simulation is made for.
use Rattle.std.specs.Prelude.{◌≡◌, length}
use Rattle.ere.specs.Tree.{Tree}
use Rattle.spans.specs.Spans.{Spans}
use Rattle.simulation.specs.declared.simulation.Simulation.{Simulation}
use Rattle.simulation.specs.Nodes.{begins_at_start, shape}
use Rattle.simulation.specs.Packing.{IsNodeFor}

-- Its node stands for the tree, there are cells for one copy of it, and it is known whether its words begin at the line's start only.
pub record IsSimulationOf (tree : Tree) (simulation : Simulation) : Type 0 where
  pub node : IsNodeFor (λ line. Spans line tree) (shape simulation.node) simulation.gaps 1 (length simulation.cells.items)
  pub at_start : simulation.at_start ≡ begins_at_start (shape simulation.node)
  pub room : length simulation.entered.items ≡ length simulation.cells.items

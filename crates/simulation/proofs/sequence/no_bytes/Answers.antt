use Rattle.simulation.proofs.Shapes.{shape-Nothing}
use Rattle.simulation.proofs.sequence.no_bytes.Goals as goal

pub returns-clause-node : goal.returns-clause-node
returns-clause-node c = shape-Nothing

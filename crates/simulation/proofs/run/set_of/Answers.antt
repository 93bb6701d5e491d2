use Rattle.std.proofs.Common.{ap, ◌∙◌}
use Rattle.simulation.specs.Nodes.{shape}
use Rattle.simulation.proofs.Shapes.{shape-Set}
use Rattle.simulation.proofs.run.set_of.Goals as goal

pub returns-in-Set : goal.returns-in-Set
returns-in-Set c = ap shape c.in-Set.is ∙ shape-Set c.in-Set.members

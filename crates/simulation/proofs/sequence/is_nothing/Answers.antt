use Rattle.std.proofs.Common.{ap, ◌∙◌}
use Rattle.simulation.specs.Nodes.{shape}
use Rattle.simulation.proofs.Shapes.{shape-Nothing}
use Rattle.simulation.proofs.sequence.is_nothing.Goals as goal

pub returns-in-Nothing : goal.returns-in-Nothing
returns-in-Nothing c = λ _. ap shape c.in-Nothing.is ∙ shape-Nothing

use Rattle.simulation.specs.Nodes.{shape}
use Rattle.simulation.proofs.Matches as matches
use Rattle.simulation.proofs.simulation.Simulation.first_empty.Goals as goal

pub returns : goal.returns
returns c = λ tree is.
    matches.found_empty c.args.line.now tree (shape c.args.self.now.node) c.args.self.now.gaps c.first_gap.result c.args.whole_words is.node.packed
    c.first_gap.ensures

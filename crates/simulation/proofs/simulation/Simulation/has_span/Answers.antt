use Rattle.std.proofs.Common.{IsTrue, subst, ◌↔◌, refl}
use Rattle.simulation.specs.Nodes.{shape}
use Rattle.simulation.specs.Private.Reading.{HasWanted}
use Rattle.simulation.proofs.Matches as matches
use Rattle.simulation.proofs.simulation.Simulation.has_span.Goals as goal

pub returns-clause-found : goal.returns-clause-found
returns-clause-found g c = λ tree is.
    matches.found_span c.args.line.now tree (shape c.args.self.now.node) c.args.self.now.gaps c.args.self.now.at_start c.in_ok-found.found c.args.whole_words
    c.args.first c.args.past _ is.node.packed is.at_start refl
    (subst (λ w. IsTrue c.in_ok-found.found ↔ HasWanted c.args.line.now (shape c.args.self.now.node) w) c.wanted-block.ensures c.in_ok-found.ensures.found)

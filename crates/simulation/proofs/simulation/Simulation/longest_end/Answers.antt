use Rattle.std.proofs.Common.{◌+◌, MatchOption, subst, refl, arith}
use Rattle.simulation.specs.Nodes.{shape}
use Rattle.simulation.specs.Private.Reading.{HasWanted, IsLastEnd}
use Rattle.simulation.proofs.Matches as matches
use Rattle.simulation.proofs.simulation.Simulation.longest_end.Goals as goal

pub returns-then-start-line-clause-found : goal.returns-then-start-line-clause-found
returns-then-start-line-clause-found g c = λ tree is. matches.none_at_end c.args.line.now tree c.args.whole_words c.args.start (omega arith)

pub returns-clause-found : goal.returns-clause-found
returns-clause-found g c = λ tree is.
    matches.found_end c.args.line.now tree (shape c.args.self.now.node) c.args.self.now.gaps c.args.self.now.at_start c.in_ok-found.found c.args.whole_words
    c.args.start (c.args.start + 1) _ is.node.packed is.at_start refl refl
    (subst (λ w. MatchOption c.in_ok-found.found (HasWanted c.args.line.now (shape c.args.self.now.node) w → ⊥) (IsLastEnd c.args.line.now (shape c.args.self.now.node) w))
    c.wanted-only.ensures c.in_ok-found.ensures.found)

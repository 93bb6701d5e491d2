use Rattle.simulation.specs.Nodes.{shape}
use Rattle.simulation.specs.Private.Reading.{HasWanted}
use Rattle.std.proofs.Common.{IsTrue, length, sym, subst, ◌∙◌, ◌↔◌, false, refl}
use Rattle.simulation.proofs.Anchors as anchors
use Rattle.simulation.proofs.Lines as lines
use Rattle.simulation.proofs.simulation.Simulation.matches.Goals as goal

pub returns-then-has_gap-clause-found : goal.returns-then-has_gap-clause-found
returns-then-has_gap-clause-found g c = λ tree is. (
  λ true_is.
      lines.found_after_gap c.args.line.now tree (shape c.args.self.now.node) c.args.self.now.gaps is.node.packed
      (sym c.has_gap.ensures ∙ c.if-has_gap.true),
  λ hit. refl,
)

pub returns-clause-found : goal.returns-clause-found
returns-clause-found g c = λ tree is.
    lines.found_by_word c.args.line.now tree (shape c.args.self.now.node) c.args.self.now.gaps c.has_gap.result c.in_ok-found.found is.node.packed
    c.has_gap.ensures c.if-has_gap.false
    (anchors.none_lost_at_all c.args.line.now (shape c.args.self.now.node) c.args.self.now.at_start c.in_ok-found.found false 0 (length c.args.line.now) _
    is.at_start refl (subst (λ w. IsTrue c.in_ok-found.found ↔ HasWanted c.args.line.now (shape c.args.self.now.node) w) c.wanted-all.ensures c.in_ok-found.ensures.found))

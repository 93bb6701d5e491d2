use Rattle.std.proofs.Common.{ap, refl, sym, ◌∙◌}
use Rattle.simulation.specs.Nodes.{shape}
use Rattle.simulation.proofs.Rows as rows
use Rattle.simulation.proofs.Shapes.{shape-Set, shape-Loop}
use Rattle.simulation.proofs.run.place_of.Goals as goal

pub returns-in-Set : goal.returns-in-Set
returns-in-Set c = record {
  reads = rows.set_row _ _ (ap shape c.in-Set.is ∙ shape-Set c.in-Set.members) refl;
  gap = c.if-not-is_gap_of.ensures refl ∙ rows.gaps_of_one c.is_everywhere-optional.result;
}

pub returns-in_ok-members-in-Loop : goal.returns-in_ok-members-in-Loop
returns-in_ok-members-in-Loop c = record {
  reads = rows.loop_row _ _ (shape c.in-Loop.body.value) c.in-Loop.field-1 (ap shape c.in-Loop.is ∙ shape-Loop c.in-Loop.body c.in-Loop.field-1)
      (ap shape (sym c.deref.ensures) ∙ c.in_ok-members-in-Loop.ensures) refl;
  gap = c.if-not-is_gap_of.ensures refl ∙ rows.gaps_of_one c.is_everywhere-optional.result;
}

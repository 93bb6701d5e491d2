use Rattle.std.proofs.Common.{ap, ◌∙◌}
use Rattle.simulation.specs.Nodes.{shape}
use Rattle.simulation.proofs.Rows as rows
use Rattle.simulation.proofs.Shapes.{shape-Set, shape-Loop}
use Rattle.simulation.proofs.run.one_place.Goals as goal

pub returns-then-not-place : goal.returns-then-not-place
returns-then-not-place c = rows.set_run _ _ _ (shape-Set c.args.place.now.members) c.if-not-place.true

pub returns : goal.returns
returns c =
    rows.loop_run _ _ (shape c.in_ok-new.field-0.value) c.words_for.result _ (shape-Loop c.in_ok-new.field-0 c.words_for.result)
    (ap shape c.in_ok-new.ensures.ok ∙ shape-Set c.args.place.now.members) c.words_for.ensures c.if-not-place.false

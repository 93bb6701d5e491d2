use Rattle.std.proofs.Common.{not, ◌||◌, ap, ◌∙◌}
use Rattle.simulation.specs.Nodes.{begins_at_start, shape}
use Rattle.simulation.proofs.Shapes.{shape-Nothing, shape-Set, shape-Run, shape-Both, shape-Either, shape-Loop, shape-Times}
use Rattle.simulation.proofs.Anchors as anchors
use Rattle.simulation.proofs.node.+anchors.Goals as goal

pub returns-in-Nothing : goal.returns-in-Nothing
returns-in-Nothing t c = anchors.starts_nothing _ (ap shape c.in-Nothing.is ∙ shape-Nothing)

pub returns-in-Set : goal.returns-in-Set
returns-in-Set t c = anchors.starts_set _ _ (ap shape c.in-Set.is ∙ shape-Set c.in-Set.field-0)

pub returns-in-Run : goal.returns-in-Run
returns-in-Run t c = anchors.starts_run _ _ _ (ap shape c.in-Run.is ∙ shape-Run c.in-Run.field-0 c.in-Run.field-1)

pub returns-then-not-before : goal.returns-then-not-before
returns-then-not-before t c =
    anchors.and_goes_on _ _ _ (not c.in-Both.before.inside || begins_at_start (shape c.in-Both.right.value))
    (c.begins_at_start.ensures ∙ ap (λ p. begins_at_start (shape p)) c.deref.ensures) c.if-begins_at_start.true
    (anchors.or_stops (not c.in-Both.before.inside) (begins_at_start (shape c.in-Both.right.value)) (ap not c.if-not-before.true))
    ∙ anchors.starts_both _ _ _ _ _ _
    (ap shape c.in-Both.is ∙ shape-Both c.in-Both.left c.in-Both.right c.in-Both.field-2 c.in-Both.before c.in-Both.field-4)

pub returns-else-not-before : goal.returns-else-not-before
returns-else-not-before t c =
    anchors.and_goes_on _ _ _ (not c.in-Both.before.inside || begins_at_start (shape c.in-Both.right.value))
    (c.begins_at_start.ensures ∙ ap (λ p. begins_at_start (shape p)) c.deref.ensures) c.if-begins_at_start.true
    (anchors.or_goes_on (not c.in-Both.before.inside) _ (begins_at_start (shape c.in-Both.right.value)) (ap not c.if-not-before.false)
    (c.begins_at_start-else-not-before.ensures ∙ ap (λ p. begins_at_start (shape p)) c.deref-else-not-before.ensures))
    ∙ anchors.starts_both _ _ _ _ _ _
    (ap shape c.in-Both.is ∙ shape-Both c.in-Both.left c.in-Both.right c.in-Both.field-2 c.in-Both.before c.in-Both.field-4)

pub returns-else-begins_at_start : goal.returns-else-begins_at_start
returns-else-begins_at_start t c =
    anchors.and_stops _ _ (not c.in-Both.before.inside || begins_at_start (shape c.in-Both.right.value))
    (c.begins_at_start.ensures ∙ ap (λ p. begins_at_start (shape p)) c.deref.ensures) c.if-begins_at_start.false
    ∙ anchors.starts_both _ _ _ _ _ _
    (ap shape c.in-Both.is ∙ shape-Both c.in-Both.left c.in-Both.right c.in-Both.field-2 c.in-Both.before c.in-Both.field-4)

pub returns-then-begins_at_start-2 : goal.returns-then-begins_at_start-2
returns-then-begins_at_start-2 t c =
    anchors.and_goes_on _ _ _ _ (c.begins_at_start-in-Either.ensures ∙ ap (λ p. begins_at_start (shape p)) c.deref-in-Either.ensures)
    c.if-begins_at_start-2.true
    (c.begins_at_start-then-begins_at_start-2.ensures ∙ ap (λ p. begins_at_start (shape p)) c.deref-then-begins_at_start-2.ensures)
    ∙ anchors.starts_either _ _ _ _ (ap shape c.in-Either.is ∙ shape-Either c.in-Either.left c.in-Either.right c.in-Either.field-2)

pub returns-else-begins_at_start-2 : goal.returns-else-begins_at_start-2
returns-else-begins_at_start-2 t c =
    anchors.and_stops _ _ (begins_at_start (shape c.in-Either.right.value))
    (c.begins_at_start-in-Either.ensures ∙ ap (λ p. begins_at_start (shape p)) c.deref-in-Either.ensures) c.if-begins_at_start-2.false
    ∙ anchors.starts_either _ _ _ _ (ap shape c.in-Either.is ∙ shape-Either c.in-Either.left c.in-Either.right c.in-Either.field-2)

pub returns-in-Loop : goal.returns-in-Loop
returns-in-Loop t c =
    c.begins_at_start-in-Loop.ensures ∙ ap (λ p. begins_at_start (shape p)) c.deref-in-Loop.ensures
    ∙ anchors.starts_loop _ _ _ (ap shape c.in-Loop.is ∙ shape-Loop c.in-Loop.body c.in-Loop.field-1)

pub returns-in-Times : goal.returns-in-Times
returns-in-Times t c =
    c.begins_at_start-in-Times.ensures ∙ ap (λ p. begins_at_start (shape p)) c.deref-in-Times.ensures
    ∙ anchors.starts_times _ _ _ (ap shape c.in-Times.is ∙ shape-Times c.in-Times.body c.in-Times.field-1)

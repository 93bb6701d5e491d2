use Rattle.std.proofs.Common.{refl, ap, ◌∙◌}
use Rattle.simulation.specs.Nodes.{shape, loop}
use Rattle.simulation.proofs.Shapes.{shape-Loop}
use Rattle.simulation.proofs.Building.{as_part, loop_part}
use Rattle.simulation.proofs.pack.looped.Goals as goal

pub returns : goal.returns
returns c = λ tree h.
    as_part _ (loop (shape c.args.one.node) c.words_for.result) _ _ _ c.args.copies _ _
    (shape-Loop c.in_ok-new.field-0 c.words_for.result ∙ ap (λ p. loop (shape p) c.words_for.result) c.in_ok-new.ensures.ok)
    c.times_gaps.ensures refl
    (loop_part tree (shape c.args.one.node) c.args.one.gaps c.args.least c.args.copies c.args.one.size c.words_for.result c.requires
    c.words_for.ensures h)

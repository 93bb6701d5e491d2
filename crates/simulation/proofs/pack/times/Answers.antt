use Rattle.std.proofs.Common.{refl, ap, ◌∙◌}
use Rattle.simulation.specs.declared.node.RepeatCounts.{RepeatCounts}
use Rattle.simulation.specs.Nodes.{shape, times}
use Rattle.simulation.proofs.Shapes.{shape-Times}
use Rattle.simulation.proofs.Building.{as_part, none_is, sum_is, times_part}
use Rattle.simulation.proofs.pack.times.Goals as goal

pub returns : goal.returns
returns c = λ tree h.
    let counts : RepeatCounts = record {
      least = c.counted_least.result;
      copies = c.args.turns;
      unbounded = c.is_none.result;
      gaps = c.counted_gaps.result;
      own = c.words_for-own.result;
      stride = c.args.stride;
      all = c.args.all;
    } in
    as_part _ (times (shape c.args.body.node) counts) _ _ _ c.args.copies _ _
    (shape-Times c.in_ok-new.field-0 counts ∙ ap (λ p. times (shape p) counts) c.in_ok-new.ensures.ok) c.times_gaps-gaps.ensures refl
    (times_part tree (shape c.args.body.node) c.args.body.gaps c.args.least c.args.greatest c.args.turns c.args.copies c.args.stride
    c.args.all c.args.body.size c.words_for-own.result c.in-Some.size counts c.requires.stride c.requires.all c.requires.some
    c.requires.counted c.words_for-own.ensures (sum_is _ _ _ _ c.in-Some.is c.checked_add.ensures) c.counted_least.ensures refl (none_is _ _ c.is_none.ensures) c.counted_gaps.ensures refl
    refl refl h)

use Rattle.std.proofs.Common.{◌+◌, refl, ap, ◌∙◌}
use Rattle.simulation.specs.declared.node.Sizes.{Sizes}
use Rattle.simulation.specs.Nodes.{shape, both}
use Rattle.simulation.proofs.Shapes.{shape-Both}
use Rattle.simulation.proofs.Building.{sum_is}
use Rattle.simulation.proofs.Sequences as sequences
use Rattle.simulation.proofs.sequence.pair.Goals as goal

pub returns : goal.returns
returns c =
    let sizes : Sizes = record { own = c.words_for-own.result; first = c.args.first.size } in
    sequences.pair_holds c.args.first c.args.second _ sizes c.args.copies
    (shape-Both c.in_ok-left.left c.in_ok-right.right sizes c.args.first.gaps c.args.second.gaps
    ∙ ap (λ p. both (shape p) (shape c.in_ok-right.right.value) sizes c.args.first.gaps c.args.second.gaps) c.in_ok-left.ensures.ok
    ∙ ap (λ p. both (shape c.args.first.node) (shape p) sizes c.args.first.gaps c.args.second.gaps) c.in_ok-right.ensures.ok)
    c.both_gaps-gaps.ensures
    (sum_is _ _ _ _ c.in-Some-checked_add.is c.checked_add-2.ensures ∙ ap (λ n. c.words_for-own.result + n) (sum_is _ _ _ _ c.in-Some.is c.checked_add.ensures))
    c.words_for-own.ensures refl c.requires.first c.requires.second

pub returns-then-is_everywhere : goal.returns-then-is_everywhere
returns-then-is_everywhere c =
    sequences.second_holds c.args.first c.args.second c.args.copies (c.if-is_nothing.ensures refl) (c.if-is_everywhere.ensures refl) c.requires.second

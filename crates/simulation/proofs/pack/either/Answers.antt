use Rattle.std.proofs.Common.{◌+◌, ◌≡◌, refl, ap, ◌∙◌, subst, IfSome}
use Rattle.simulation.specs.declared.node.Sizes.{Sizes}
use Rattle.simulation.specs.Nodes.{shape, either}
use Rattle.simulation.specs.Nodes.{set as one_of}
use Rattle.ere.specs.ByteSet.{union}
use Rattle.simulation.proofs.Shapes.{shape-Either, shape-Set}
use Rattle.simulation.proofs.Building.{as_part, sum_is, either_part, only_part, union_part}
use Rattle.simulation.proofs.pack.either.Goals as goal

pub returns-then-is_nothing : goal.returns-then-is_nothing
returns-then-is_nothing c = λ tree trees one two.
    as_part _ (shape c.args.first.node) _ _ _ c.args.copies _ _ refl c.either_gaps-gaps.ensures refl
    (only_part tree trees (shape c.args.first.node) (shape c.args.second.node) c.args.first.gaps c.args.second.gaps c.args.copies c.args.first.size
    c.args.second.size (c.if-is_nothing.ensures refl) one two)

pub returns : goal.returns
returns c = λ tree trees one two.
    let sizes : Sizes = record { own = c.words_for-own.result; first = c.args.first.size } in
    as_part _ (either (shape c.args.first.node) (shape c.args.second.node) sizes) _ _ _ c.args.copies _ _
    (shape-Either c.in_ok-left.left c.in_ok-right.right sizes
    ∙ ap (λ p. either (shape p) (shape c.in_ok-right.right.value) sizes) c.in_ok-left.ensures.ok
    ∙ ap (λ p. either (shape c.args.first.node) (shape p) sizes) c.in_ok-right.ensures.ok)
    c.either_gaps-gaps.ensures refl
    (either_part tree trees (shape c.args.first.node) (shape c.args.second.node) c.args.first.gaps c.args.second.gaps sizes c.args.copies
    c.args.first.size c.args.second.size c.in-Some-checked_add-2.size c.words_for-own.ensures refl
    (sum_is _ _ _ _ c.in-Some-checked_add-2.is c.checked_add-2.ensures ∙ ap (λ n. c.words_for-own.result + n) (sum_is _ _ _ _ c.in-Some-checked_add.is c.checked_add.ensures)) one two)

pub returns-in-Some-set_of : goal.returns-in-Some-set_of
returns-in-Some-set_of c = λ tree trees head rest.
    as_part _ (one_of (union c.in-Some.one c.in-Some-set_of.two)) _ _ _ c.args.copies _ _ (shape-Set c.union.result ∙ ap one_of c.union.ensures) c.either_gaps-gaps.ensures
    refl
    (union_part tree trees (shape c.args.first.node) (shape c.args.second.node) c.in-Some.one c.in-Some-set_of.two c.args.first.gaps c.args.second.gaps c.args.copies
    c.args.first.size c.args.second.size (subst (λ o. IfSome o (λ m. shape c.args.first.node ≡ one_of m)) c.in-Some.is c.set_of.ensures)
    (subst (λ o. IfSome o (λ m. shape c.args.second.node ≡ one_of m)) c.in-Some-set_of.is c.set_of-in-Some.ensures) head rest)

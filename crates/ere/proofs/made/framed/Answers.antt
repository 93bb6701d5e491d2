use Rattle.std.proofs.Common.{ap, ◌∙◌, sym, subst, arith}
use Rattle.ere.specs.Edges.{IsSizeFault}
use Rattle.ere.specs.Limits.{IsProper}
use Rattle.ere.specs.Tree.{cat}
use Rattle.ere.proofs.Forms.{form-Cat}
use Rattle.ere.proofs.FrameLemmas.{forms_three, proper-three, too_high, too_many, within}
use Rattle.ere.proofs.made.framed.Goals as goal

pub returns-clause-tree : goal.returns-clause-tree
returns-clause-tree c =
    form-Cat c.push-3.new.self
    ∙ ap cat (forms_three _ _ _ _ c.args.first c.args.tree c.args.last c.new-members.ensures.items c.in_ok-push.ensures.items
    c.in_ok-push-2.ensures.items c.in_ok-push-3.ensures.items)

pub returns-clause-limits : goal.returns-clause-limits
returns-clause-limits c =
    let is = returns-clause-tree c in
    within _ _ _ (subst IsProper (sym is) (proper-three _ _ _ c.requires.first c.requires.tree c.requires.last)) c.is_low.ensures
    c.if-not-is_low.false c.capped_leaves.ensures c.if-capped_leaves-gt-MAX_LEAVES.false

pub returns-then-not-is_low-clause-refused : goal.returns-then-not-is_low-clause-refused
returns-then-not-is_low-clause-refused c = λ _.
    let is =
    form-Cat c.push-3.new.self
    ∙ ap cat (forms_three _ _ _ _ c.args.first c.args.tree c.args.last c.new-members.ensures.items c.in_ok-push.ensures.items
    c.in_ok-push-2.ensures.items c.in_ok-push-3.ensures.items) in
    subst (λ t. IsSizeFault t c.new.result) is
    (too_high _ _ c.new.result c.is_low.ensures c.if-not-is_low.true c.new.ensures.kind (c.new.ensures.at (omega arith)))

pub returns-then-capped_leaves-gt-MAX_LEAVES-clause-refused : goal.returns-then-capped_leaves-gt-MAX_LEAVES-clause-refused
returns-then-capped_leaves-gt-MAX_LEAVES-clause-refused c = λ _.
    let error = c.new-then-capped_leaves-gt-MAX_LEAVES in
    let is =
    form-Cat c.push-3.new.self
    ∙ ap cat (forms_three _ _ _ _ c.args.first c.args.tree c.args.last c.new-members.ensures.items c.in_ok-push.ensures.items
    c.in_ok-push-2.ensures.items c.in_ok-push-3.ensures.items) in
    subst (λ t. IsSizeFault t error.result) is
    (too_many _ _ _ error.result c.is_low.ensures c.if-not-is_low.false c.capped_leaves.ensures c.if-capped_leaves-gt-MAX_LEAVES.true
    error.ensures.kind (error.ensures.at (omega arith)))

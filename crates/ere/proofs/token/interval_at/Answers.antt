use Rattle.std.proofs.Common.{◌+◌, ◌∷◌, arith, sym, subst, ap, drop, ◌∙◌, Some, None}
use Rattle.ere.specs.Private.Reading.{ReadsCount}
use Rattle.ere.proofs.Texts.{Stands-begins}
use Rattle.ere.proofs.TokenLemmas.{one_count}
use Rattle.ere.proofs.TokenSteps.{low_fails, exactly_found, at_least_found, between_found, tail_fails, comma_fails, begins_not}
use Rattle.ere.proofs.token.interval_at.Goals as goal
use Rattle.ere.proofs.token.interval_at.Goals.{then-least-most-via-then-least-most, then-least-most-via-else-least-most+then-not-stands_at-2}

pub returns-in_default-clause-err : goal.returns-in_default-clause-err
returns-in_default-clause-err c = low_fails _ _ (subst (ReadsCount _ _) c.in_default.is c.count_at-low.ensures.count)

pub returns-then-stands_at-clause-ok : goal.returns-then-stands_at-clause-ok
returns-then-stands_at-clause-ok c =
    exactly_found _ _ _ c.in-Some.least (subst (ReadsCount _ _) c.in-Some.is c.count_at-low.ensures.count)
    (Stands-begins c.args.text.now c.count_at-low.result.1 125 (sym c.if-stands_at.ensures)).from

pub returns-then-not-stands_at-clause-err : goal.returns-then-not-stands_at-clause-err
returns-then-not-stands_at-clause-err c = tail_fails _ _ _ c.count_at-low.ensures.count c.if-stands_at.ensures c.if-not-stands_at.ensures

pub returns-then-stands_at-2-clause-ok : goal.returns-then-stands_at-2-clause-ok
returns-then-stands_at-2-clause-ok c =
    let text = c.args.text.now in
    let comma = c.count_at-low.result.1 in
    let brace = (Stands-begins text (comma + 1) 125 (sym c.if-stands_at-2.ensures)).from ∙ ap (λ k. 125 ∷ drop k text) (omega arith) in
    at_least_found _ _ _ c.in-Some.least (subst (ReadsCount _ _) c.in-Some.is c.count_at-low.ensures.count)
    ((Stands-begins text comma 44 (sym c.if-not-stands_at.ensures)).from ∙ ap (λ t. 44 ∷ t) brace)

pub returns-in_default-high-clause-err : goal.returns-in_default-high-clause-err
returns-in_default-high-clause-err c =
    let q = subst (ReadsCount _ _) c.in_default-high.is c.count_at-high.ensures.count in
    comma_fails _ _ _ _ _ None c.count_at-low.ensures.count
    (Stands-begins c.args.text.now c.count_at-low.result.1 44 (sym c.if-not-stands_at.ensures)).from c.if-stands_at-2.ensures q
    (λ rest l m e count least order. q.counted m count)

pub returns-then-least-most-clause-err : goal.returns-then-least-most-clause-err
returns-then-least-most-clause-err c =
    let r = subst (ReadsCount _ _) c.in-Some.is c.count_at-low.ensures.count in
    let q = subst (ReadsCount _ _) c.in-Some-high.is c.count_at-high.ensures.count in
    comma_fails _ _ _ _ (Some c.in-Some.least) (Some c.in-Some-high.most) r
    (Stands-begins c.args.text.now c.count_at-low.result.1 44 (sym c.if-not-stands_at.ensures)).from c.if-stands_at-2.ensures q
    (λ rest l m e count least order. elim c.then-least-most.branch [
      | then-least-most-via-then-least-most w ↦
          let most = one_count q.digits m c.in-Some-high.most count q.counted in omega (arith, most, least, order, w.if-least-most.true)
      | then-least-most-via-else-least-most+then-not-stands_at-2 w ↦ begins_not _ 125 rest e w.if-not-stands_at-2.ensures
    ])

pub returns-clause-ok : goal.returns-clause-ok
returns-clause-ok c =
    between_found _ _ _ _ _ c.in-Some.least c.in-Some-high.most (subst (ReadsCount _ _) c.in-Some.is c.count_at-low.ensures.count)
    (Stands-begins c.args.text.now c.count_at-low.result.1 44 (sym c.if-not-stands_at.ensures)).from
    (subst (ReadsCount _ _) c.in-Some-high.is c.count_at-high.ensures.count)
    (Stands-begins c.args.text.now c.count_at-high.result.1 125 (sym c.if-not-stands_at-2.ensures)).from c.if-least-most.false

use Rattle.std.proofs.Common.{inl, inr, sym, subst}
use Rattle.std.proofs.lemmas.Result.{IfOk-weaker}
use Rattle.search.specs.Private.Gathered.{Joins, left_from}
use Rattle.search.proofs.JoinLemmas.{joins-for, joins-within}
use Rattle.search.proofs.LimitLemmas.{nothing_taken, is_over-left}
use Rattle.search.proofs.side_by_side.fitted.Goals as goal

pub returns-then-fits-clause-joins : goal.returns-then-fits-clause-joins
returns-then-fits-clause-joins g c = λ own told is.
    let wanted = c.args.wanted.now in
    let documents = c.args.documents.now in
    let back = c.args.back in
    elim (c.fits.ensures c.if-fits.true) [
      | inl none ↦ subst (λ n. Joins wanted (left_from wanted.limit n) documents back) (sym none)
          (subst (λ l. Joins wanted l documents back) (sym (nothing_taken wanted.limit)) is)
      | inr fits ↦ joins-within wanted wanted.limit (left_from wanted.limit c.args.before) documents back fits.0
          (is_over-left _ (left_from wanted.limit c.args.before) back.count c.left_of-limit.ensures fits.1) is
    ]

pub returns-clause-joins : goal.returns-clause-joins
returns-clause-joins g c =
    let wanted = c.args.wanted.now in
    let documents = c.args.documents.now in
    IfOk-weaker c.gather_part.result _ _ (λ joined is. λ own told before.
    joins-for wanted c.left_of-limit.result (left_from wanted.limit c.args.before) documents joined
    (subst (λ l. Joins (record { prepared = wanted.prepared; view = wanted.view; limit = c.left_of-limit.result; known = wanted.known }) l documents joined)
    c.left_of-limit.ensures (is own told))) c.gather_part.ensures.joins

use Rattle.std.proofs.Common.{◌≡◌, inl, inr, subst, sym, ◌∙◌, arith}
use Rattle.std.proofs.lemmas.Bool.{cases_lt, false≢true}
use Rattle.simulation.specs.Private.Reading.{IsFreeGap}
use Rattle.simulation.proofs.gaps.first_gap.Goals as goal

pub loop-at-preserved : goal.loop-at-preserved
loop-at-preserved c = λ other free.
    elim (cases_lt c.loop-at.at other) [
      | inl behind ↦ omega (arith, behind)
      | inr before ↦ (let low = c.loop-at.invariant other free in
          let same : other ≡ c.loop-at.at = omega arith in
          let here = subst (λ n. IsFreeGap c.args.gaps c.args.line.now c.args.whole_words n) same free in
          absurd (false≢true (sym c.if-is_free_gap-2.false ∙ c.is_free_gap-in-loop-at.ensures.1 here)))
    ]

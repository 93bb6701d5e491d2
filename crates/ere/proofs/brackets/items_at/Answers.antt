use Rattle.std.proofs.Common.{true, arith, sym, subst, drop}
use Rattle.ere.specs.Brackets.{SpellsItems}
use Rattle.ere.specs.Brackets.{SpellsItems as items}
use Rattle.ere.proofs.Texts.{Stands-begins}
use Rattle.ere.proofs.BracketLemmas.{items_push}
use Rattle.ere.proofs.BracketSteps.{if_err, items_fail, first_fails}
use Rattle.ere.proofs.brackets.items_at.Goals as goal

pub returns-in_err-members-clause-err : goal.returns-in_err-members-clause-err
returns-in_err-members-clause-err c = if_err c.from_residual.result _ (first_fails _ c.in_err-members.ensures.err)

pub loop-at-init : goal.loop-at-init
loop-at-init c = record { read = items.last c.in_ok-members.ensures.ok; on = c.in_ok-members.ensures.after.0; within = c.in_ok-members.ensures.after.1 }

pub returns-in_err-more-clause-err : goal.returns-in_err-more-clause-err
returns-in_err-more-clause-err c =
    if_err c.from_residual-in_err-more.result _
    (items_fail _ _ _ c.loop-at.invariant.read (sym c.loop-at-test.ensures) c.in_err-more.ensures.err)

pub loop-at-preserved : goal.loop-at-preserved
loop-at-preserved c = record {
  read = subst (SpellsItems true _ _) (sym c.union-members.ensures) (items_push true _ _ _ _ _ c.loop-at.invariant.read c.in_ok-more.ensures.ok);
  on = omega (arith, c.in_ok-more.ensures.after, c.loop-at.invariant.on);
  within = c.in_ok-more.ensures.after.1;
}

pub returns-clause-ok : goal.returns-clause-ok
returns-clause-ok c =
    subst (λ v. SpellsItems true (drop c.args.start c.args.text.now) v c.loop-at.members)
    (Stands-begins c.args.text.now c.loop-at.at 93 (sym c.loop-at-test.ensures)).from c.loop-at.invariant.read

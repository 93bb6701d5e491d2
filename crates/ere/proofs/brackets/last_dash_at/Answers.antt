use Rattle.std.proofs.Common.{sym, subst, false}
use Rattle.ere.specs.Brackets.{SpellsItem}
use Rattle.ere.proofs.Texts.{Stands-begins}
use Rattle.ere.proofs.BracketSteps.{last_dash, no_dash}
use Rattle.ere.proofs.brackets.last_dash_at.Goals as goal

pub returns-then-stands_at-clause-ok : goal.returns-then-stands_at-clause-ok
returns-then-stands_at-clause-ok c =
    subst (SpellsItem false _ _) (sym c.single.ensures)
    (last_dash _ _ (Stands-begins c.args.text.now c.args.at 45 c.requires).from (sym c.if-stands_at.ensures))

pub returns-then-at-text-clause-err : goal.returns-then-at-text-clause-err
returns-then-at-text-clause-err c = no_dash _ _ (Stands-begins c.args.text.now c.args.at 45 c.requires).from (sym c.if-stands_at.ensures)

pub returns-clause-err : goal.returns-clause-err
returns-clause-err c = no_dash _ _ (Stands-begins c.args.text.now c.args.at 45 c.requires).from (sym c.if-stands_at.ensures)

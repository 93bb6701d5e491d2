use Rattle.std.proofs.Common.{◌+◌, ◌∙◌, ap, sym}
use Rattle.ere.specs.ByteSet.{complement}
use Rattle.ere.specs.Brackets.{SpellsBracket as brackets}
use Rattle.ere.proofs.Texts.{Stands-begins}
use Rattle.ere.proofs.BracketSteps.{if_err, hat_fails}
use Rattle.ere.proofs.brackets.bracket_at.Goals as goal

pub returns-in_err-items-clause-err : goal.returns-in_err-items-clause-err
returns-in_err-items-clause-err c =
    if_err c.from_residual.result _
    (hat_fails _ _ (Stands-begins c.args.text.now (c.args.opening + 1) 94 (sym c.if-stands_at.ensures)).from c.in_err-items.ensures.err)

pub returns-then-stands_at-clause-ok : goal.returns-then-stands_at-clause-ok
returns-then-stands_at-clause-ok c =
    brackets.non_matching _ _ (Stands-begins c.args.text.now (c.args.opening + 1) 94 (sym c.if-stands_at.ensures)).from
    c.in_ok-items.ensures.ok (c.complement.ensures ∙ ap complement c.read_in.ensures)

pub returns-clause-ok : goal.returns-clause-ok
returns-clause-ok c = brackets.matching _ (sym c.if-stands_at.ensures) c.in_ok-items-2.ensures.ok c.read_in-2.ensures

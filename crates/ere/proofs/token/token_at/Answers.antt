use Rattle.std.proofs.Common.{◌+◌, sym, drop, refl, get_or, inl, inr}
use Rattle.ere.specs.Tokens.{SpellsToken as spelled}
use Rattle.ere.proofs.Texts.{front, Stands-read}
use Rattle.ere.proofs.BracketSteps.{if_err}
use Rattle.ere.proofs.TokenSteps.{bracket_fails, interval_fails, short_byte}
use Rattle.ere.proofs.token.token_at.Goals as goal
use Rattle.ere.proofs.token.token_at.Goals.{else-byte-eq123-via-then-byte-eq123+else-is_digit_at, else-byte-eq123-via-else-byte-eq123}

pub returns-in_err-members-clause-err : goal.returns-in_err-members-clause-err
returns-in_err-members-clause-err c =
    if_err c.from_residual.result _
    (bracket_fails _ _ (Stands-read c.args.text.now c.args.at 91 c.requires c.if-byte-eq91.true).from c.in_err-members.ensures.err)

pub returns-then-byte-eq91-clause-ok : goal.returns-then-byte-eq91-clause-ok
returns-then-byte-eq91-clause-ok c =
    spelled.bracket _ _ (Stands-read c.args.text.now c.args.at 91 c.requires c.if-byte-eq91.true).from c.in_ok-members.ensures.ok refl

pub returns-in_err-least-clause-err : goal.returns-in_err-least-clause-err
returns-in_err-least-clause-err c =
    if_err c.from_residual-in_err-least.result _
    (interval_fails _ _ (Stands-read c.args.text.now c.args.at 123 c.requires c.if-byte-eq123.true).from (sym c.if-is_digit_at.ensures)
    c.in_err-least.ensures.err)

pub returns-then-is_digit_at-clause-ok : goal.returns-then-is_digit_at-clause-ok
returns-then-is_digit_at-clause-ok c =
    spelled.interval _ _ _ (Stands-read c.args.text.now c.args.at 123 c.requires c.if-byte-eq123.true).from (sym c.if-is_digit_at.ensures)
    c.in_ok-least.ensures.ok refl

pub returns-clause-ok : goal.returns-clause-ok
returns-clause-ok c =
    spelled.byte (get_or c.args.text.now c.args.at 0) (front c.args.text.now c.args.at c.requires)
    (c.token_of_byte.ensures (drop (c.args.at + 1) c.args.text.now)
    (short_byte (get_or c.args.text.now c.args.at 0) (drop (c.args.at + 1) c.args.text.now) c.if-byte-eq91.false c.if-byte-eq92.false
    (elim c.else-byte-eq123.branch [
      | else-byte-eq123-via-then-byte-eq123+else-is_digit_at w ↦ inl (sym w.if-is_digit_at.ensures)
      | else-byte-eq123-via-else-byte-eq123 w ↦ inr w.if-byte-eq123.false
    ])))

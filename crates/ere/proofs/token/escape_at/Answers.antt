use Rattle.std.proofs.Common.{◌≡◌, ◌+◌, ◌∷◌, arith, sym, ◌∙◌, ap, IsTrue, get_or, true, false, []}
use Rattle.std.proofs.lemmas.List.{drop_all}
use Rattle.ere.specs.Tokens.{is_escapable, set}
use Rattle.ere.specs.Tokens.{SpellsToken as spelled}
use Rattle.ere.proofs.Texts.{Stands-begins, front}
use Rattle.ere.proofs.BracketLemmas.{head_of}
use Rattle.ere.proofs.BracketSteps.{next}
use Rattle.ere.proofs.TokenSteps.{escape_fails}
use Rattle.ere.proofs.token.escape_at.Goals as goal
use Rattle.ere.proofs.token.escape_at.Goals.{else-at-text-via-then-at-text+else-is_escapable, else-at-text-via-else-at-text}

pub returns-then-is_escapable-clause-ok : goal.returns-then-is_escapable-clause-ok
returns-then-is_escapable-clause-ok c =
    spelled.escaped (get_or c.args.text.now (c.args.at + 1) 0)
    ((Stands-begins c.args.text.now c.args.at 92 c.requires).from
    ∙ ap (λ t. 92 ∷ t) (next c.args.text.now (c.args.at + 1) (c.args.at + 2) (omega arith) (omega arith)))
    (sym c.if-is_escapable.ensures) (ap set c.single_in.ensures)

pub returns-clause-err : goal.returns-clause-err
returns-clause-err c =
    escape_fails _ _ (Stands-begins c.args.text.now c.args.at 92 c.requires).from
    (λ b r e escapable. elim c.else-at-text.branch [
      | else-at-text-via-then-at-text+else-is_escapable w ↦
          let same : get_or c.args.text.now (c.args.at + 1) 0 ≡ b = head_of (sym (front c.args.text.now (c.args.at + 1) w.if-at-text.true) ∙ e) in
          let yes_it_is : IsTrue (is_escapable (get_or c.args.text.now (c.args.at + 1) 0)) = rw same escapable in
          let no_it_is_not : false ≡ is_escapable (get_or c.args.text.now (c.args.at + 1) 0) = w.if-is_escapable.ensures in
          absurd (let both : false ≡ true = no_it_is_not ∙ yes_it_is in cc)
      | else-at-text-via-else-at-text w ↦
          let none : [] ≡ b ∷ r = sym (drop_all (c.args.at + 1) c.args.text.now w.if-at-text.false) ∙ e in
          absurd (cc)
    ])

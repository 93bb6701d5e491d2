use Rattle.std.proofs.Common.{◌+◌, ◌≤◌, arith, sym, ◌∙◌, length, drop}
use Rattle.std.proofs.lemmas.Bool.Decides.{nat_tests}
use Rattle.ere.proofs.BracketSteps.{ahead_last, ahead_no_dash}
use Rattle.ere.proofs.brackets.is_range_ahead.Goals as goal
use Rattle.ere.proofs.brackets.is_range_ahead.Goals.{then-stands_at, else-stands_at}

pub returns-else-at-text : goal.returns-else-at-text
returns-else-at-text c =
    elim c.if-stands_at.branch [
      | then-stands_at w ↦
          let q = w.value-is in
          let short : length c.args.text.now ≤ c.args.at + 1 = grind (arith, nat_tests) in
          c.if-at-text.false ∙ sym (ahead_last c.args.text.now c.args.at short)
      | else-stands_at w ↦ c.if-at-text.false ∙ sym (ahead_no_dash (drop c.args.at c.args.text.now) (sym w.if-stands_at.ensures))
    ]

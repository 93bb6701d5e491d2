use Rattle.std.proofs.Common.{subst, drop, IfSome}
use Rattle.ere.specs.Tokens.{SpellsToken, times}
use Rattle.ere.proofs.Texts.{front}
use Rattle.ere.proofs.ReaderSteps.{lexing_fails, on_err, times_first}
use Rattle.ere.proofs.reader.anchor.Goals as goal

pub returns-in_err-duplication_at-clause-err : goal.returns-in_err-duplication_at-clause-err
returns-in_err-duplication_at-clause-err c =
    let failed = c.in_err-duplication_at.ensures.err in
    on_err c.from_residual.result _ (λ all a n. lexing_fails _ _ _ (front c.args.text.now c.args.after failed.0) failed.1 all a)

pub returns-in-Some-clause-err : goal.returns-in-Some-clause-err
returns-in-Some-clause-err c =
    let text = c.args.text.now in
    times_first _ _ _ _
    (subst (λ f. IfSome f (λ d. SpellsToken c.args.case (drop c.args.after text) (drop d.2 text) (times d.0 d.1))) c.in-Some.is
    c.in_ok-duplication_at.ensures.ok)

use Rattle.std.proofs.Common.{◌<◌, ◌≤◌, arith, subst, drop, length, IfSome}
use Rattle.ere.specs.Tokens.{SpellsToken, times}
use Rattle.ere.specs.Tree.{repeat}
use Rattle.ere.specs.Spelling.{SpellsDuplications as duplications}
use Rattle.ere.proofs.ReaderSteps.{Reads-none, any_more, back_fails, lexing_fails, repeat_more}
use Rattle.ere.proofs.Texts.{front}
use Rattle.ere.proofs.BracketSteps.{if_err_but}
use Rattle.ere.proofs.reader.repeated.Goals as goal

pub loop-part-init : goal.loop-part-init
loop-part-init c = record {
  read = λ tree built. (tree, built, Reads-none _ _ (λ all. duplications.done));
  back = Reads-none _ _ (λ all. tt);
  on = omega arith;
  within = c.requires;
}

pub returns-in_err-least-clause-err : goal.returns-in_err-least-clause-err
returns-in_err-least-clause-err c =
    let failed = c.in_err-least.ensures.err in
    if_err_but c.from_residual.result _ _
    (back_fails _ _ _ c.loop-part.invariant.back (lexing_fails _ _ _ (front c.args.text.now c.loop-part.at failed.0) failed.1))

pub loop-part-preserved : goal.loop-part-preserved
loop-part-preserved c =
    let text = c.args.text.now in
    let spelled =
    subst (λ f. IfSome f (λ d. SpellsToken c.args.case (drop c.loop-part.at text) (drop d.2 text) (times d.0 d.1))) c.in-Some.is
    c.in_ok-least.ensures.ok in
    let after = subst (λ f. IfSome f (λ d. (c.loop-part.at < d.2) × (d.2 ≤ length text))) c.in-Some.is c.in_ok-least.ensures.after in
    record {
      read = λ tree built.
          let before = c.loop-part.invariant.read tree built in (
            repeat before.0 c.in-Some.least c.in-Some.greatest,
            c.in_ok-part.ensures.ok before.0 before.1,
            repeat_more _ _ _ tree before.0 c.in-Some.least c.in-Some.greatest before.2 spelled,
          );
      back = any_more _ _ _ _ c.loop-part.invariant.back spelled;
      on = omega (arith, after.0, c.loop-part.invariant.on);
      within = after.1;
    }

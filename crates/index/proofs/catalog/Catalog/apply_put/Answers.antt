use Rattle.std.proofs.Common.{sym, ◌∙◌, ap, arith}
use Rattle.std.proofs.lemmas.Result.{on_ok_weaker, on_err_weaker}
use Rattle.documents.specs.declared.command.Command.TheVariants.{Put}
use Rattle.documents.specs.State.{applied}
use Rattle.index.specs.Private.Numbered.{number_of}
use Rattle.index.specs.Private.Plain.{plain_state}
use Rattle.index.proofs.catalog.Catalog.apply_put.Goals as goal

pub returns-then-is_put-clause-ok : goal.returns-then-is_put-clause-ok
returns-then-is_put-clause-ok c = c.in_ok-is_put.ensures.put c.if-is_put.true

pub put_body-requires-clause-few : goal.put_body-requires-clause-few
put_body-requires-clause-few c = omega (arith, c.requires, ap (λ s. s.version) (c.in_ok-is_put.ensures.none c.if-is_put.false))

pub put_body-requires-clause-old : goal.put_body-requires-clause-old
put_body-requires-clause-old c = c.number-old.ensures ∙ sym (ap (λ s. number_of c.args.name.now s.documents) (c.in_ok-is_put.ensures.none c.if-is_put.false))

pub returns-clause-ok : goal.returns-clause-ok
returns-clause-ok c =
    on_ok_weaker c.put_body.result (λ e. e ∙ ap (λ s. applied (Put c.args.name.now c.args.held.now) (plain_state s)) (c.in_ok-is_put.ensures.none c.if-is_put.false))
    c.put_body.ensures.ok

pub returns-clause-err : goal.returns-clause-err
returns-clause-err c = on_err_weaker c.put_body.result (λ e. e ∙ c.in_ok-is_put.ensures.none c.if-is_put.false) c.put_body.ensures.err

use Rattle.std.proofs.Common.{sym, ◌∙◌, ap, arith}
use Rattle.std.proofs.lemmas.Result.{on_ok_weaker, on_err_weaker}
use Rattle.documents.specs.declared.command.Command.TheVariants.{Put}
use Rattle.documents.specs.State.{applied}
use Rattle.index.specs.Private.Numbered.{number_of}
use Rattle.index.specs.Private.Plain.{plain_state}
use Rattle.index.proofs.LeaveLemmas.{on_err}
use Rattle.index.proofs.catalog.Catalog.put_in_pieces.Goals as goal

pub put_known-requires-clause-few : goal.put_known-requires-clause-few
put_known-requires-clause-few c = omega (arith, c.requires, ap (λ s. s.version) c.start_over_if_too_much.ensures)

pub returns-in_err-is_put-clause-err : goal.returns-in_err-is_put-clause-err
returns-in_err-is_put-clause-err c = on_err c.from_residual.result (c.in_err-is_put.ensures.err ∙ c.start_over_if_too_much.ensures)

pub returns-then-is_put-clause-ok : goal.returns-then-is_put-clause-ok
returns-then-is_put-clause-ok c =
    c.in_ok-is_put.ensures.put c.if-is_put.true ∙ ap (λ s. applied (Put c.args.name.now c.args.held.now) (plain_state s)) c.start_over_if_too_much.ensures

pub put_body_in_pieces-requires-clause-few : goal.put_body_in_pieces-requires-clause-few
put_body_in_pieces-requires-clause-few c = omega (arith, c.requires, ap (λ s. s.version) (c.in_ok-is_put.ensures.none c.if-is_put.false ∙ c.start_over_if_too_much.ensures))

pub put_body_in_pieces-requires-clause-old : goal.put_body_in_pieces-requires-clause-old
put_body_in_pieces-requires-clause-old c = c.number-old.ensures ∙ sym (ap (λ s. number_of c.args.name.now s.documents) (c.in_ok-is_put.ensures.none c.if-is_put.false))

pub returns-clause-ok : goal.returns-clause-ok
returns-clause-ok c =
    on_ok_weaker c.put_body_in_pieces.result (λ e. e ∙ ap (λ s. applied (Put c.args.name.now c.args.held.now) (plain_state s)) (c.in_ok-is_put.ensures.none c.if-is_put.false ∙ c.start_over_if_too_much.ensures))
    c.put_body_in_pieces.ensures.ok

pub returns-clause-err : goal.returns-clause-err
returns-clause-err c = on_err_weaker c.put_body_in_pieces.result (λ e. e ∙ c.in_ok-is_put.ensures.none c.if-is_put.false ∙ c.start_over_if_too_much.ensures) c.put_body_in_pieces.ensures.err

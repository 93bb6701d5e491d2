use Rattle.std.proofs.Common.{refl, subst}
use Rattle.event_loop.specs.Running.{AnswersFront}
use Rattle.event_loop.specs.Serving.{came, answered, in_part}
use Rattle.event_loop.proofs.ServingLemmas.{on_err}
use Rattle.event_loop.proofs.items.take_event.Goals as goal

pub returns-in_err-await_answer-clause-err : goal.returns-in_err-await_answer-clause-err
returns-in_err-await_answer-clause-err g c =
    let front = c.in_err-await_answer.ensures.err in on_err c.from_residual.result _ (in_part {last = front.0} front.1)

pub returns-then-open_searches-gt0-clause-ok : goal.returns-then-open_searches-gt0-clause-ok
returns-then-open_searches-gt0-clause-ok g c = (refl, answered refl c.in_ok-await_answer.ensures.ok)

pub returns-in-Ok-clause-ok : goal.returns-in-Ok-clause-ok
returns-in-Ok-clause-ok g c = (refl, came _ c.in-Ok.ensures.ok c.in-Ok.ensures.read c.next_event.ensures refl refl)

pub returns-in_ok-take_answer-in-Some-Answer-clause-ok : goal.returns-in_ok-take_answer-in-Some-Answer-clause-ok
returns-in_ok-take_answer-in-Some-Answer-clause-ok g c =
    (refl, rw (← c.next_event.ensures) (answered refl c.in_ok-take_answer-in-Some-Answer.ensures.ok))

pub returns-in_err-take_answer-in-Some-Answer-clause-err : goal.returns-in_err-take_answer-in-Some-Answer-clause-err
returns-in_err-take_answer-in-Some-Answer-clause-err g c =
    on_err c.from_residual-in_err-take_answer-in-Some-Answer.result _
    (in_part
    (subst (λ s. AnswersFront g.W.Sink.Sink.fails s c.args.sink.now c.args.out.now c.take_answer.new.service c.take_answer.new.sink c.take_answer.new.out)
    c.next_event.ensures c.in_err-take_answer-in-Some-Answer.ensures.err))

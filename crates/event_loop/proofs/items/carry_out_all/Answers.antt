use Rattle.std.proofs.Common.{arith}
use Rattle.std.specs.Prelude.{true, false}
use Rattle.event_loop.proofs.ServingLemmas.{serving_begins, stepped, cut_off, cut_here, done_at_end, on_err, on_ok_map}
use Rattle.event_loop.proofs.items.carry_out_all.Goals as goal

pub loop-init : goal.loop-init
loop-init g c = record {
  iterator = (tt, tt);
  serving = serving_begins _ _ _ _ _ _ _ _ _ c.requires.first c.requires.inbox c.requires.read;
  held = λ path body. (λ h. h, λ h. h);
  counted = omega arith;
}

pub loop-preserved : goal.loop-preserved
loop-preserved g c =
    let was = c.loop.invariant in
    let step = c.in_ok-step.ensures in
    record {
      iterator = (tt, tt);
      serving = stepped _ g.W.Sink.Sink.fails _ _ was.held _ _ _ _ _ was.serving true c.in_ok-step.field-0 c.if-not-branch.false _ _ step.ok;
      held = λ path body. (λ h. (was.held path body).0 ((step.same path body).0 h), λ h. (step.same path body).1 ((was.held path body).1 h));
      counted = omega (arith, was.counted, step.counted);
    }

pub returns-in_err-step-clause-err : goal.returns-in_err-step-clause-err
returns-in_err-step-clause-err g c =
    let was = c.loop.invariant in on_err _ _ (cut_off _ _ _ _ was.held _ _ _ _ _ was.serving _ _ _ c.in_err-step.ensures.err)

pub returns-in_err-step-clause-same : goal.returns-in_err-step-clause-same
returns-in_err-step-clause-same g c = λ path body.
    let was = c.loop.invariant.held path body in
    let step = c.in_err-step.ensures.same path body in
    (λ h. was.0 (step.0 h), λ h. step.1 (was.1 h))

pub returns-in_err-step-clause-counted : goal.returns-in_err-step-clause-counted
returns-in_err-step-clause-counted g c = omega (arith, c.loop.invariant.counted, c.in_err-step.ensures.counted)

pub returns-then-not-branch-clause-ok : goal.returns-then-not-branch-clause-ok
returns-then-not-branch-clause-ok g c =
    let was = c.loop.invariant in
    let over = stepped _ g.W.Sink.Sink.fails _ _ was.held _ _ _ _ _ was.serving false c.in_ok-step.field-0 c.if-not-branch.true _ _ c.in_ok-step.ensures.ok in
    on_ok_map c.end_of_reading.result (λ ends. done_at_end _ _ _ _ _ _ _ over (ends over.3)) c.end_of_reading.ensures

pub returns-then-not-branch-clause-err : goal.returns-then-not-branch-clause-err
returns-then-not-branch-clause-err g c =
    let was = c.loop.invariant in
    let over = stepped _ g.W.Sink.Sink.fails _ _ was.held _ _ _ _ _ was.serving false c.in_ok-step.field-0 c.if-not-branch.true _ _ c.in_ok-step.ensures.ok in
    on_err c.end_of_reading.result _ (cut_here _ _ _ _ _ _ _ over.0 _)

pub returns-then-not-branch-clause-same : goal.returns-then-not-branch-clause-same
returns-then-not-branch-clause-same g c = λ path body.
    let was = c.loop.invariant.held path body in
    let step = c.in_ok-step.ensures.same path body in
    (λ h. was.0 (step.0 h), λ h. step.1 (was.1 h))

pub returns-then-not-branch-clause-counted : goal.returns-then-not-branch-clause-counted
returns-then-not-branch-clause-counted g c = omega (arith, c.loop.invariant.counted, c.in_ok-step.ensures.counted)

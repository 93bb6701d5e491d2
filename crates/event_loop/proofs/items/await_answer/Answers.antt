use Rattle.std.proofs.Common.{arith, subst, sym}
use Rattle.service.specs.Service.{SetsAside}
use Rattle.service.proofs.ServiceLemmas.{gives_after}
use Rattle.service.proofs.TurnsLemmas.{aside_none, aside_both}
use Rattle.event_loop.specs.Running.{one}
use Rattle.event_loop.proofs.RunLemmas.{gives_one, gives_refusal}
use Rattle.event_loop.proofs.ServingLemmas.{on_ok_map, on_err_map, on_err}
use Rattle.event_loop.proofs.items.await_answer.Goals as goal

pub loop-init : goal.loop-init
loop-init g c = record { iterator = (tt, tt); aside = aside_none _; few = omega arith; begun = g.met.W.Sink.Sink.at_first _ _ }

pub loop-preserved-in_default : goal.loop-preserved-in_default
loop-preserved-in_default g c =
    let noted = subst (λ s. SetsAside s c.note_begun.new.service) c.next_answer.ensures c.note_begun.ensures in
    let sets = aside_both _ _ _ c.loop.invariant.aside noted in
    record {
      iterator = (tt, tt);
      aside = subst (SetsAside c.args.service.now) (sym c.in_default.ensures.none) sets;
      few = c.loop.invariant.few;
      begun = c.loop.invariant.begun;
    }

pub returns-in-Some-answered-clause-ok : goal.returns-in-Some-answered-clause-ok
returns-in-Some-answered-clause-ok g c =
    let noted = subst (λ s. SetsAside s c.note_begun.new.service) c.next_answer.ensures c.note_begun.ensures in
    let sets = aside_both _ _ _ c.loop.invariant.aside noted in
    on_ok_map c.finish.result
    (λ does. one c.in-Some-answered.entry (gives_after _ _ _ _ sets c.in-Some-answered.ensures.some) (does _ _ c.loop.invariant.begun))
    c.finish.ensures.ok

pub returns-in-Some-answered-clause-err : goal.returns-in-Some-answered-clause-err
returns-in-Some-answered-clause-err g c =
    let noted = subst (λ s. SetsAside s c.note_begun.new.service) c.next_answer.ensures c.note_begun.ensures in
    let sets = aside_both _ _ _ c.loop.invariant.aside noted in
    on_err_map c.finish.result
    (λ fails. (
      _,
      record {
        entry = c.in-Some-answered.entry;
        gives = gives_after _ _ _ _ sets c.in-Some-answered.ensures.some;
        fails = fails _ _ c.loop.invariant.begun;
      },
    )) c.finish.ensures.err

pub returns-in_err-ahead-in-Err-Timeout-clause-err : goal.returns-in_err-ahead-in-Err-Timeout-clause-err
returns-in_err-ahead-in-Err-Timeout-clause-err g c =
    let refusal = gives_refusal c.args.service.now c.requires in
    on_err c.from_residual.result _ (
      refusal.1,
      record {
        entry = refusal.0;
        gives = refusal.2;
        fails = c.in_err-ahead-in-Err-Timeout.ensures.err _ _ refusal.0 (gives_one _ _ _ refusal.2) c.loop.invariant.begun;
      },
    )

pub returns-in-Err-Disconnected-clause-err : goal.returns-in-Err-Disconnected-clause-err
returns-in-Err-Disconnected-clause-err g c =
    let refusal = gives_refusal c.args.service.now c.requires in (
      refusal.1,
      record {
        entry = refusal.0;
        gives = refusal.2;
        fails = g.met.W.Sink.Sink.awaits c.loop.ahead _ _ _ _ refusal.0 (gives_one _ _ _ refusal.2) c.loop.invariant.begun;
      },
    )

use Rattle.event_loop.specs.Running.{Start, now}
use Rattle.event_loop.specs.Serving.{IsServing, IsCutOff}
use Rattle.event_loop.proofs.ServingLemmas.{cut_here, cut_took, serving_took, event_advances, event_cuts, on_err}
use Rattle.event_loop.proofs.items.step.Goals as goal

pub returns-then-is_full-clause-err : goal.returns-then-is_full-clause-err
returns-then-is_full-clause-err g c = λ start serving. cut_here _ _ _ _ start _ _ serving _

pub returns-then-not-may_take-clause-ok : goal.returns-then-not-may_take-clause-ok
returns-then-not-may_take-clause-ok g c = event_advances _ _ _ _ _ _ _ _ _ _ c.take_event.result c.take_event.ensures.ok

pub returns-then-not-may_take-clause-err : goal.returns-then-not-may_take-clause-err
returns-then-not-may_take-clause-err g c = event_cuts _ _ _ _ _ c.take_event.new.inbox _ _ _ _ _ c.take_event.result c.take_event.ensures.err

pub returns-in_err-take-in-Some-clause-err : goal.returns-in_err-take-in-Some-clause-err
returns-in_err-take-in-Some-clause-err g c =
    let old = now c.args.service.now (g.W.Source.Source.failed c.args.source.now) c.args.sink.now c.args.out.now in
    let all : (start : Start g.row.W-Sink.Denot g.row.W-Output.Denot)
    → IsServing g.W.Sink.Sink.does (g.W.Source.Source.holds c.args.source.now) c.args.plan.now.readers g.W.Items.Naming.input start c.args.inbox.now old
    → IsCutOff g.W.Sink.Sink.does g.W.Sink.Sink.fails (g.W.Source.Source.holds c.args.source.now) c.args.plan.now.readers g.W.Items.Naming.input start
    (g.W.Source.Source.failed c.take.new.source) c.take.new.sink c.take.new.out =
    λ start serving.
    cut_took _ _ _ _ start _ _ serving c.in-Some.read c.next_ready.new.self c.in-Some.ensures.some c.in-Some.ensures.rest.0 _ _ _ _
    c.in_err-take-in-Some.ensures.err in
    on_err _ _ all

pub returns-in_ok-take-in-Some-clause-ok : goal.returns-in_ok-take-in-Some-clause-ok
returns-in_ok-take-in-Some-clause-ok g c = λ start serving.
    serving_took _ _ _ _ start _ _ serving c.in-Some.read c.next_ready.new.self c.in-Some.ensures.some c.in-Some.ensures.rest.0 _
    c.in_ok-take-in-Some.ensures.ok

pub returns-in-None-2-clause-ok : goal.returns-in-None-2-clause-ok
returns-in-None-2-clause-ok g c =
    rw (← c.in-None-2.ensures.none) (event_advances _ _ _ _ _ _ _ _ _ _ c.take_event-in-None-2.result c.take_event-in-None-2.ensures.ok)

pub returns-in-None-2-clause-err : goal.returns-in-None-2-clause-err
returns-in-None-2-clause-err g c =
    rw (← c.in-None-2.ensures.none)
    (event_cuts _ _ _ _ _ c.take_event-in-None-2.new.inbox _ _ _ _ _ c.take_event-in-None-2.result c.take_event-in-None-2.ensures.err)

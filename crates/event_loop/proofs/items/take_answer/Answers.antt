use Rattle.std.proofs.Common.{refl, subst, sym}
use Rattle.service.specs.Service.{SetsAside}
use Rattle.service.proofs.ServiceLemmas.{gives_after}
use Rattle.event_loop.specs.Running.{nothing, one}
use Rattle.event_loop.proofs.ServingLemmas.{on_ok_map, on_err_map}
use Rattle.event_loop.proofs.items.take_answer.Goals as goal

pub returns-in-Some-clause-ok : goal.returns-in-Some-clause-ok
returns-in-Some-clause-ok g c =
    on_ok_map c.note.result
    (λ does. one c.in-Some.entry (gives_after _ _ _ _ c.note_begun.ensures c.in-Some.ensures.some) does) c.note.ensures.ok

pub returns-in-Some-clause-err : goal.returns-in-Some-clause-err
returns-in-Some-clause-err g c =
    on_err_map c.note.result
    (λ fails. record { entry = c.in-Some.entry; gives = gives_after _ _ _ _ c.note_begun.ensures c.in-Some.ensures.some; fails = fails })
    c.note.ensures.err

pub returns-in-None-clause-ok : goal.returns-in-None-clause-ok
returns-in-None-clause-ok g c =
    nothing (subst (SetsAside c.args.service.now) (sym c.in-None.ensures.none) c.note_begun.ensures) refl refl

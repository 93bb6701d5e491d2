use Rattle.std.proofs.Common.{refl}
use Rattle.service.proofs.TurnsLemmas.{aside_none}
use Rattle.event_loop.specs.Running.{nothing, one}
use Rattle.event_loop.proofs.ServingLemmas.{on_ok_map, on_err_map}
use Rattle.event_loop.proofs.items.hand_out.Goals as goal

pub returns-in-Some-answer_here-clause-ok : goal.returns-in-Some-answer_here-clause-ok
returns-in-Some-answer_here-clause-ok g c =
    on_ok_map c.note.result (λ does. one c.in-Some-answer_here.entry c.in-Some-answer_here.ensures.some does) c.note.ensures.ok

pub returns-in-Some-answer_here-clause-err : goal.returns-in-Some-answer_here-clause-err
returns-in-Some-answer_here-clause-err g c =
    on_err_map c.note.result
    (λ fails. record { entry = c.in-Some-answer_here.entry; gives = c.in-Some-answer_here.ensures.some; fails = fails }) c.note.ensures.err

pub returns-in_default-clause-ok : goal.returns-in_default-clause-ok
returns-in_default-clause-ok g c = nothing (aside_none _) refl refl

use Rattle.event_loop.specs.Running.{now, FailsAtOne}
use Rattle.event_loop.proofs.RunLemmas.{entry_taken, cancel_taken, front_taken, search_taken, nothing_taken, open_front, answers_on, answers_front}
use Rattle.event_loop.proofs.ServingLemmas.{on_ok_map, on_err_map, on_err}
use Rattle.std.proofs.Common.{refl}
use Rattle.event_loop.proofs.items.take.Goals as goal

pub returns-in-Entry-clause-ok : goal.returns-in-Entry-clause-ok
returns-in-Entry-clause-ok g c =
    on_ok_map c.note.result
    (λ does start items shown shows was.
    entry_taken _ _ _ start items _ was c.args.read.line c.args.read.item shown shows c.requires.may c.take.new.self _ c.in-Entry.entry
    (c.in-Entry.ensures.takes shown shows) c.in-Entry.ensures.counted _ _ (c.in-Entry.ensures.kind shown shows) does) c.note.ensures.ok

pub returns-in-Entry-clause-err : goal.returns-in-Entry-clause-err
returns-in-Entry-clause-err g c =
    on_err_map c.note.result
    (λ fails start items shown shows was.
    front_taken _ _ _ start items _ was c.args.read.line c.args.read.item shown shows c.requires.may c.take.new.self _ c.in-Entry.entry
    (c.in-Entry.ensures.takes shown shows) c.in-Entry.ensures.counted _ refl _ _ _ fails) c.note.ensures.err

pub returns-in-Cancelled-clause-ok : goal.returns-in-Cancelled-clause-ok
returns-in-Cancelled-clause-ok g c =
    on_ok_map c.note-in-Cancelled.result
    (λ does start items shown shows was.
    cancel_taken _ _ _ start items _ was c.args.read.line c.args.read.item shown shows c.requires.may c.take.new.self _ c.in-Cancelled.entry
    (c.in-Cancelled.ensures.takes shown shows) c.in-Cancelled.ensures.counted _ _ (c.in-Cancelled.ensures.kind shown shows) does)
    c.note-in-Cancelled.ensures.ok

pub returns-in-Cancelled-clause-err : goal.returns-in-Cancelled-clause-err
returns-in-Cancelled-clause-err g c =
    on_err_map c.note-in-Cancelled.result
    (λ fails start items shown shows was.
    front_taken _ _ _ start items _ was c.args.read.line c.args.read.item shown shows c.requires.may c.take.new.self _ c.in-Cancelled.entry
    (c.in-Cancelled.ensures.takes shown shows) c.in-Cancelled.ensures.counted _ refl _ _ _ fails) c.note-in-Cancelled.ensures.err

pub returns-in_ok-note-in-Search-clause-ok : goal.returns-in_ok-note-in-Search-clause-ok
returns-in_ok-note-in-Search-clause-ok g c =
    on_ok_map c.hand_out.result
    (λ answers start items shown shows was.
    answers_on _ _ _ start _ _
    (search_taken _ _ _ start items _ was c.args.read.line c.args.read.item shown shows c.requires.may c.take.new.self _
    (c.in-Search.ensures.takes shown shows) c.in-Search.ensures.counted c.searches.result c.searches.ensures (c.in-Search.ensures.kind shown shows)
    _ _ c.in_ok-note-in-Search.ensures.ok) _ _ _ answers) c.hand_out.ensures.ok

pub returns-in_ok-note-in-Search-clause-err : goal.returns-in_ok-note-in-Search-clause-err
returns-in_ok-note-in-Search-clause-err g c =
    on_err_map c.hand_out.result
    (λ front start items shown shows was.
    answers_front _ _ _ start _ _
    (search_taken _ _ _ start items _ was c.args.read.line c.args.read.item shown shows c.requires.may c.take.new.self _
    (c.in-Search.ensures.takes shown shows) c.in-Search.ensures.counted c.searches.result c.searches.ensures (c.in-Search.ensures.kind shown shows)
    _ _ c.in_ok-note-in-Search.ensures.ok) _ _ _ _ front) c.hand_out.ensures.err

pub returns-in_err-note-in-Search-clause-err : goal.returns-in_err-note-in-Search-clause-err
returns-in_err-note-in-Search-clause-err g c =
    let all : FailsAtOne g.W.Sink.Sink.does g.W.Sink.Sink.fails (g.W.Source.Source.holds c.args.source.now) c.args.plan.now.readers c.args.read
    (now c.args.service.now (g.W.Source.Source.failed c.args.source.now) c.args.sink.now c.args.out.now) (g.W.Source.Source.failed c.take.new.source)
    c.note-in-Search.new.self c.note-in-Search.new.out =
    λ start items shown shows was.
    open_front _ _ _ start items _ was c.args.read.line c.args.read.item shown shows c.requires.may c.take.new.self _
    (c.in-Search.ensures.takes shown shows) c.in-Search.ensures.counted _ _ _ _ c.in_err-note-in-Search.ensures.err in
    on_err _ _ all

pub returns-in-Nothing-clause-ok : goal.returns-in-Nothing-clause-ok
returns-in-Nothing-clause-ok g c = λ start items shown shows was.
    nothing_taken _ _ _ start items _ was c.args.read.line c.args.read.item shown shows c.requires.may c.take.new.self _
    (c.in-Nothing.ensures.takes shown shows) c.in-Nothing.ensures.counted (c.in-Nothing.ensures.kind shown shows)

use Rattle.std.proofs.Common.{◌∙◌, ap}
use Rattle.program.proofs.SessionLemmas.{broken_from, served_from, unread}
use Rattle.program.proofs.session.serve_reader.Goals as goal

pub returns-in-Ok-serve-clause-served : goal.returns-in-Ok-serve-clause-served
returns-in-Ok-serve-clause-served g c =
    let buffered = c.in-Ok-with_capacity in
    let whole = unread (λ noted. g.I.Read.remaining noted.reader) buffered.reader c.in-Ok.noted buffered.ensures.inner buffered.ensures.empty buffered.ensures.capacity
    ∙ ap g.I.Read.remaining c.in-Ok.ensures in
    served_from _ _ _ _ _ _ _ _ _ whole (rw c.lengths_of.ensures at c.in-Ok-serve.ensures.ok)

pub returns-clause-failed : goal.returns-clause-failed
returns-clause-failed g c =
    let buffered = c.in-Ok-with_capacity in
    let whole = unread (λ noted. g.I.Read.remaining noted.reader) buffered.reader c.in-Ok.noted buffered.ensures.inner buffered.ensures.empty buffered.ensures.capacity
    ∙ ap g.I.Read.remaining c.in-Ok.ensures in
    broken_from _ _ (g.I.Read.remaining c.args.input) _ _ _ _ c.args.settings.now _ _ _ whole c.fault_of_session.ensures (rw c.lengths_of.ensures at c.in-Err-serve.ensures.err)

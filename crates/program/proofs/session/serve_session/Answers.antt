use Rattle.std.proofs.Common.{refl}
use Rattle.program.proofs.SessionLemmas.{session_ended}
use Rattle.program.proofs.session.serve_session.Goals as goal

pub returns-in-Ok-clause-failed : goal.returns-in-Ok-clause-failed
returns-in-Ok-clause-failed g c =
    session_ended _ _ _ _ _ _ _ c.args.settings.now _ c.serve_reader.result (rw c.in-Some.is c.in-Ok.ensures) c.serve_reader.ensures.failed

pub returns-clause-failed : goal.returns-clause-failed
returns-clause-failed g c =
    session_ended _ _ _ _ _ _ _ c.args.settings.now _ c.serve_reader-in-None.result (rw c.in-None.is refl) c.serve_reader-in-None.ensures.failed

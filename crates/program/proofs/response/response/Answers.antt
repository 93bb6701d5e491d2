use Rattle.program.proofs.ResponseLemmas.{help_fails, help_responds, run_fails, run_responds, session_fails, session_responds, version_fails, version_responds}
use Rattle.std.proofs.Common.{refl}
use Rattle.program.specs.Response.{refused}
use Rattle.program.proofs.OutputLemmas.{nothing_written}
use Rattle.program.proofs.response.response.Goals as goal

pub returns-in-Ok-Run-clause-responded : goal.returns-in-Ok-Run-clause-responded
returns-in-Ok-Run-clause-responded g c =
    session_responds _ _ _ _ _ _ _ _ c.in-Ok-Run.settings c.serve_session.result (rw c.in-Ok-Run.field-0-is at c.in-Ok-Run.ensures.request)
    c.if-settings.true c.serve_session.ensures.served

pub returns-in-Ok-Run-clause-failed : goal.returns-in-Ok-Run-clause-failed
returns-in-Ok-Run-clause-failed g c =
    session_fails _ _ _ _ _ _ _ _ c.in-Ok-Run.settings c.serve_session.result (rw c.in-Ok-Run.field-0-is at c.in-Ok-Run.ensures.request)
    c.if-settings.true c.serve_session.ensures.failed

pub returns-in-Ok-Run-2-clause-responded : goal.returns-in-Ok-Run-2-clause-responded
returns-in-Ok-Run-2-clause-responded g c =
    run_responds _ _ _ _ _ _ _ _ c.in-Ok-Run.settings c.run_script.result (rw c.in-Ok-Run.field-0-is at c.in-Ok-Run.ensures.request)
    c.if-settings.false c.run_script.ensures.run

pub returns-in-Ok-Run-2-clause-failed : goal.returns-in-Ok-Run-2-clause-failed
returns-in-Ok-Run-2-clause-failed g c =
    run_fails _ _ _ _ _ _ _ _ c.in-Ok-Run.settings c.run_script.result (rw c.in-Ok-Run.field-0-is at c.in-Ok-Run.ensures.request)
    c.if-settings.false c.run_script.ensures.failed

pub returns-in-Ok-Help-clause-responded : goal.returns-in-Ok-Help-clause-responded
returns-in-Ok-Help-clause-responded g c =
    help_responds _ _ _ _ _ _ _ _ c.show.result (rw c.in-Ok-Help.field-0-is at c.in-Ok-Help.ensures.request) c.show.ensures.ok

pub returns-in-Ok-Help-clause-failed : goal.returns-in-Ok-Help-clause-failed
returns-in-Ok-Help-clause-failed g c =
    help_fails _ _ _ _ _ _ _ _ c.show.result (rw c.in-Ok-Help.field-0-is at c.in-Ok-Help.ensures.request) c.show.ensures.fault c.show.ensures.err

pub returns-in-Ok-Version-clause-responded : goal.returns-in-Ok-Version-clause-responded
returns-in-Ok-Version-clause-responded g c =
    version_responds _ _ _ _ _ _ _ _ c.show-in-Ok-Version.result (rw c.in-Ok-Version.field-0-is at c.in-Ok-Version.ensures.request) c.show-in-Ok-Version.ensures.ok

pub returns-in-Ok-Version-clause-failed : goal.returns-in-Ok-Version-clause-failed
returns-in-Ok-Version-clause-failed g c =
    version_fails _ _ _ _ _ _ _ _ c.show-in-Ok-Version.result (rw c.in-Ok-Version.field-0-is at c.in-Ok-Version.ensures.request) c.show-in-Ok-Version.ensures.fault c.show-in-Ok-Version.ensures.err

pub returns-in-Err-clause-failed : goal.returns-in-Err-clause-failed
returns-in-Err-clause-failed g c = refused c.in-Err.error refl c.in-Err.ensures.refused (nothing_written _)

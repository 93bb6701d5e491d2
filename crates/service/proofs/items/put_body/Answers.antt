use Rattle.std.proofs.Common.{inl, refl}
use Rattle.steps.specs.LegalRows.{bad_body}
use Rattle.service.proofs.items.put_body.Goals as goal

pub returns-in-Err-clause-entry : goal.returns-in-Err-clause-entry
returns-in-Err-clause-entry c line = inl (bad_body _ c.in-Err.ensures.fault refl)

use Rattle.std.proofs.Common.{ap}
use Rattle.documents.specs.State.{state_of}
use Rattle.steps.specs.LegalRows.{named}
use Rattle.transcript.specs.declared.entry.Entry.TheVariants.{Refused}
use Rattle.service.proofs.ItemLemmas.{named_fault, named_copied}
use Rattle.service.proofs.items.copy_under.Goals as goal

pub returns-in-Err-clause-entry : goal.returns-in-Err-clause-entry
returns-in-Err-clause-entry c line = named_fault c.args.longest c.in-Err.error c.args.from.now line _ _ c.in-Err.ensures.fault (ap (Refused line) c.reason_of_name.ensures)

pub returns-clause-entry : goal.returns-clause-entry
returns-clause-entry c line =
    named c.in-Ok.ensures.name.1
    (named_fault c.args.longest c.in-Err-within.error c.args.to.now line _ _ c.in-Err-within.ensures.fault (ap (Refused line) c.reason_of_name-in-Err-within.ensures))

pub returns-in-Ok-within-clause-entry : goal.returns-in-Ok-within-clause-entry
returns-in-Ok-within-clause-entry c line =
    named_copied c.args.longest c.args.desk.now.limit (state_of c.args.desk.now.accepted) c.args.from.now c.args.to.now line _ c.in-Ok.ensures.name.1
    c.in-Ok-within.ensures.name.1
    (rw (c.in-Ok.ensures.name.0, c.in-Ok-within.ensures.name.0) at (c.copy_under_name.ensures.entry line))

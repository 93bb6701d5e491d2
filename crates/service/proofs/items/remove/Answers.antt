use Rattle.std.proofs.Common.{ap}
use Rattle.documents.specs.State.{state_of}
use Rattle.transcript.specs.declared.entry.Entry.TheVariants.{Refused}
use Rattle.service.proofs.ItemLemmas.{named_fault, named_removed}
use Rattle.service.proofs.items.remove.Goals as goal

pub returns-in-Err-clause-entry : goal.returns-in-Err-clause-entry
returns-in-Err-clause-entry c line = named_fault c.args.longest c.in-Err.error c.args.name.now line _ _ c.in-Err.ensures.fault (ap (Refused line) c.reason_of_name.ensures)

pub returns-in-Ok-clause-entry : goal.returns-in-Ok-clause-entry
returns-in-Ok-clause-entry c line =
    named_removed c.args.longest c.args.desk.now.limit (state_of c.args.desk.now.accepted) c.args.name.now _ line _ c.in-Ok.ensures.name.1
    (rw c.in-Ok.ensures.name.0 at (c.remove_named.ensures.entry line))

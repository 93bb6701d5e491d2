use Rattle.std.proofs.Common.{ap}
use Rattle.documents.specs.State.{state_of}
use Rattle.transcript.specs.declared.entry.Entry.TheVariants.{Refused}
use Rattle.service.proofs.ItemLemmas.{named_fault, named_body}
use Rattle.service.proofs.items.put.Goals as goal

pub returns-in-Err-clause-entry : goal.returns-in-Err-clause-entry
returns-in-Err-clause-entry c line = named_fault c.args.lengths.name c.in-Err.error c.args.name.now line _ _ c.in-Err.ensures.fault (ap (Refused line) c.reason_of_name.ensures)

pub returns-in-Ok-clause-entry : goal.returns-in-Ok-clause-entry
returns-in-Ok-clause-entry c line =
    named_body c.args.lengths c.args.desk.now.limit (state_of c.args.desk.now.accepted) c.args.name.now c.args.body.items line _ c.in-Ok.ensures.name.1
    (c.put_body.ensures.entry line)

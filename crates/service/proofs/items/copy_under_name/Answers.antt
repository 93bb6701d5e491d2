use Rattle.documents.specs.declared.command.Command.TheVariants.{CopyUnder}
use Rattle.service.proofs.ItemLemmas.{refused_copy, accepted_copy}
use Rattle.service.proofs.items.copy_under_name.Goals as goal

pub returns-in-Ok-clause-entry : goal.returns-in-Ok-clause-entry
returns-in-Ok-clause-entry c line =
    accepted_copy c.args.longest c.args.desk.now c.copy_under.new.self (CopyUnder c.args.from.now c.args.to.now) c.args.from.now c.args.to.now _ line
    c.in-Ok.ensures.there c.in-Ok.ensures.short c.in-Ok.ensures.ok.0 c.in-Ok.ensures.ok.1 c.in-Ok.ensures.count

pub returns-in-Err-clause-entry : goal.returns-in-Err-clause-entry
returns-in-Err-clause-entry c line =
    refused_copy c.args.longest c.args.desk.now c.args.from.now c.args.to.now c.in-Err.error _ line c.in-Err.ensures.fault c.reason_of_copy.ensures

use Rattle.documents.specs.declared.command.Command.TheVariants.{RemoveUnder}
use Rattle.service.proofs.ItemLemmas.{refused_remove, accepted_remove}
use Rattle.service.proofs.items.remove_under_name.Goals as goal

pub returns-in-Ok-clause-entry : goal.returns-in-Ok-clause-entry
returns-in-Ok-clause-entry c line =
    accepted_remove c.args.desk.now c.remove_under.new.self (RemoveUnder c.args.prefix.now) _ _ line c.in-Ok.ensures.there c.in-Ok.ensures.ok.0 c.in-Ok.ensures.ok.1
    c.in-Ok.ensures.count

pub returns-in-Err-clause-entry : goal.returns-in-Err-clause-entry
returns-in-Err-clause-entry c line =
    refused_remove c.args.desk.now _ c.in-Err.error _ line c.in-Err.ensures.fault c.reason_of_remove.ensures

use Rattle.index.proofs.IndexLemmas.{inserted_name, longer}
use Rattle.index.proofs.catalog.enter.Goals as goal

pub returns-clause-numbers : goal.returns-clause-numbers
returns-clause-numbers c =
    inserted_name c.args.numbers.now c.insert.new.self c.args.name.now c.in_ok-share.field-0 c.args.number c.in_ok-share.ensures
    c.in_ok-insert.ensures.updates.0

pub returns-clause-len : goal.returns-clause-len
returns-clause-len c = longer c.in_ok-insert.field-0 _ _ c.in_ok-insert.ensures.len

use Rattle.published.proofs.NameLemmas.{removed}
use Rattle.published.proofs.names.Names.remove.Goals as goal

pub returns : goal.returns
returns c = removed c.args.self.now.names c.remove.new.self c.args.name.now c.remove.ensures.updates.0

use Rattle.std.proofs.Common.{ap}
use Rattle.names.specs.Private.Entries.{joined}
use Rattle.names.proofs.MapLemmas.{new_is}
use Rattle.names.proofs.names.Names.new.Goals as goal

pub returns : goal.returns
returns c = new_is (joined c.new.result.items) (ap joined c.new.ensures.items)

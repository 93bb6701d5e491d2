use Rattle.names.specs.Private.Entries.{joined}
use Rattle.names.proofs.MapLemmas.{len_is}
use Rattle.names.proofs.names.Names.len.Goals as goal

pub returns : goal.returns
returns c = len_is (joined c.self.inside.chunks.items) c.args.self.now c.self.inside.count c.self.invariant.rise c.self.view_is c.self.invariant.count_is

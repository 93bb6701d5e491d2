use Rattle.names.specs.Private.Entries.{joined}
use Rattle.names.proofs.MapLemmas.{bytes_is}
use Rattle.names.proofs.names.Names.bytes.Goals as goal

pub returns : goal.returns
returns c = bytes_is (joined c.self.inside.chunks.items) c.args.self.now c.self.inside.bytes c.self.invariant.rise c.self.view_is c.self.invariant.bytes_are

use Rattle.index.proofs.IndexLemmas.{IsIndex-room}
use Rattle.index.proofs.catalog.Catalog.fill_one.Goals as goal

pub fill_one-requires : goal.fill_one-requires
fill_one-requires c = (c.self.inside.version, c.self.invariant.kept)

pub invariant_of-self : goal.invariant_of-self
invariant_of-self c =
    IsIndex-room c.self.invariant c.fill_one.new.self c.fill_one.ensures.documents (c.fill_one.ensures.store c.self.inside.version c.self.invariant.kept)

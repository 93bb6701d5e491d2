use Rattle.index.proofs.IndexLemmas.{IsIndex-room}
use Rattle.index.proofs.catalog.Catalog.fill_some.Goals as goal

pub fill_some-requires : goal.fill_some-requires
fill_some-requires c = (c.self.inside.version, c.self.invariant.kept)

pub invariant_of-self : goal.invariant_of-self
invariant_of-self c =
    IsIndex-room c.self.invariant c.fill_some.new.self c.fill_some.ensures.documents (c.fill_some.ensures.store c.self.inside.version c.self.invariant.kept)

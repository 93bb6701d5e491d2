use Rattle.index.proofs.IndexLemmas.{IsIndex-room}
use Rattle.index.proofs.catalog.Catalog.fill.Goals as goal

pub invariant_of-self : goal.invariant_of-self
invariant_of-self g c =
    IsIndex-room c.self.invariant c.fill.new.self c.fill.ensures.documents (c.fill.ensures.store c.self.inside.version c.self.invariant.kept)

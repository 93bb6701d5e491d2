use Rattle.index.proofs.IndexLemmas.{IsIndex-room}
use Rattle.index.proofs.catalog.Catalog.start_over_if_too_much.Goals as goal

pub invariant_of-self : goal.invariant_of-self
invariant_of-self c =
    IsIndex-room c.self.invariant c.start_over_if_too_much.new.self c.start_over_if_too_much.ensures.documents
    (c.start_over_if_too_much.ensures.store c.self.inside.version c.self.invariant.kept)

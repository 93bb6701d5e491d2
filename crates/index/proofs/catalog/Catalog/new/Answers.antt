use Rattle.std.proofs.Common.{ap, map}
use Rattle.index.specs.Private.Numbered.{state}
use Rattle.index.specs.Private.Store.{stored}
use Rattle.index.proofs.NamedLemmas.{shown}
use Rattle.index.proofs.IndexLemmas.{IsIndex-none}
use Rattle.index.proofs.catalog.Catalog.new.Goals as goal

pub invariant_of-result : goal.invariant_of-result
invariant_of-result c =
    IsIndex-none c.new.result c.new-2.result c.new-3.result c.new.ensures.empty c.new.ensures.ordered c.new-2.ensures.empty c.new-3.ensures.documents
    c.new-3.ensures.store

pub returns : goal.returns
returns c = ap (λ es. state 0 (map (shown (stored c.new-3.result)) es)) c.new.ensures.empty

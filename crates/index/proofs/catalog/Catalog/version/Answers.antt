use Rattle.std.proofs.Common.{subst}
use Rattle.index.specs.Private.Numbered.{IsState}
use Rattle.index.proofs.NamedLemmas.{state_of_index}
use Rattle.index.proofs.catalog.Catalog.version.Goals as goal

pub returns-clause-state : goal.returns-clause-state
returns-clause-state c = subst IsState c.self.view_is (state_of_index c.self.invariant)

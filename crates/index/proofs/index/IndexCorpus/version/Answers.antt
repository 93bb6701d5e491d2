use Rattle.std.proofs.Common.{◌∙◌, ap, subst}
use Rattle.documents.specs.State.{IsState}
use Rattle.index.proofs.PlainLemmas.{IsState-plain}
use Rattle.index.proofs.index.IndexCorpus.version.Goals as goal

pub returns-clause-version : goal.returns-clause-version
returns-clause-version c = c.version.ensures.version ∙ ap (λ s. s.version) c.self.view_is

pub returns-clause-state : goal.returns-clause-state
returns-clause-state c = subst IsState c.self.view_is (IsState-plain c.self.inside.catalog c.version.ensures.state)

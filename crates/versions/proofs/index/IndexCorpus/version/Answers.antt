use Rattle.std.proofs.Common.{ap, subst}
use Rattle.documents.specs.State.{State, IsState}
use Rattle.versions.proofs.VersionLemmas.{is_state}
use Rattle.versions.proofs.index.IndexCorpus.version.Goals as goal

pub returns-clause-version : goal.returns-clause-version
returns-clause-version c = ap (λ (s : State). s.version) c.self.view_is

pub returns-clause-state : goal.returns-clause-state
returns-clause-state c =
    subst IsState c.self.view_is (is_state c.self.inside.version c.self.inside.version c.self.inside.names c.self.inside.sets c.self.invariant.is)

use Rattle.std.proofs.Common.{ap}
use Rattle.documents.specs.State.{State}
use Rattle.versions.proofs.draft.Draft.version.Goals as goal

pub returns : goal.returns
returns c = ap (λ (s : State). s.version) c.self.view_is

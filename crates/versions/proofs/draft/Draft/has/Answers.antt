use Rattle.std.proofs.Common.{◌∙◌, ap}
use Rattle.documents.specs.Documents.{is_taken}
use Rattle.documents.specs.State.{State}
use Rattle.versions.proofs.BodyLemmas.{taken}
use Rattle.versions.proofs.draft.Draft.has.Goals as goal

pub returns : goal.returns
returns c =
    c.is_some.ensures
    ∙ (taken c.self.inside.names c.args.name.now c.body_under.result c.body_under.ensures
    ∙ ap (λ (s : State). is_taken c.args.name.now s.documents) c.self.view_is)

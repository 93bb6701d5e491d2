use Rattle.std.proofs.Common.{◌∙◌, ap}
use Rattle.std.specs.FinMap.{keys}
use Rattle.std.specs.List.{list_any}
use Rattle.prefixes.specs.Under.{begins_with}
use Rattle.documents.specs.Documents.{has_under}
use Rattle.documents.specs.State.{State}
use Rattle.versions.proofs.BodyLemmas.{any-bodies}
use Rattle.versions.proofs.draft.Draft.has_under.Goals as goal

pub returns : goal.returns
returns c =
    c.has_under.ensures
    ∙ (ap (λ text. list_any (begins_with text) (keys c.self.inside.names)) c.as_bytes.ensures.bytes
    ∙ (any-bodies c.self.inside.names (begins_with c.args.text.now) ∙ ap (λ (s : State). has_under c.args.text.now s.documents) c.self.view_is))

use Rattle.std.proofs.Common.{◌∙◌, ap}
use Rattle.documents.specs.State.{body_bytes}
use Rattle.index.proofs.index.Index.held_bytes.Goals as goal

pub returns : goal.returns
returns c = c.held_bytes.ensures ∙ ap (λ s. body_bytes s.documents) c.self.view_is

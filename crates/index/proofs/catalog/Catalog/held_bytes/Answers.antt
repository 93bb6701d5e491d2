use Rattle.std.proofs.Common.{◌∙◌, ap}
use Rattle.documents.specs.State.{body_bytes}
use Rattle.index.specs.Private.Plain.{plain_documents}
use Rattle.index.proofs.catalog.Catalog.held_bytes.Goals as goal

pub returns : goal.returns
returns c = c.self.invariant.bytes ∙ ap (λ s. body_bytes (plain_documents s.documents)) c.self.view_is

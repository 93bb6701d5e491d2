use Rattle.std.proofs.Common.{◌∙◌, ap}
use Rattle.published.specs.Desk.{has_document_under}
use Rattle.published.proofs.DocumentNames.{under_as}
use Rattle.published.proofs.desk.Desk.has_under.Goals as goal

pub returns : goal.returns
returns c =
    c.has_under.ensures
    ∙ (under_as c.self.inside.copies.accepted c.self.inside.names c.args.prefix.now c.self.inside.named
    ∙ ap (λ d. has_document_under d.accepted c.args.prefix.now) c.self.view_is)

use Rattle.std.proofs.Common.{◌∙◌, ap}
use Rattle.published.specs.Desk.{has_document_too_long}
use Rattle.published.proofs.DocumentNames.{long_as}
use Rattle.published.proofs.desk.Desk.has_long_copy.Goals as goal

pub returns : goal.returns
returns c =
    c.has_long_copy.ensures
    ∙ (long_as c.self.inside.copies.accepted c.self.inside.names c.args.most c.args.from.now c.args.to.now c.self.inside.named
    ∙ ap (λ d. has_document_too_long d.accepted c.args.most c.args.from.now c.args.to.now) c.self.view_is)

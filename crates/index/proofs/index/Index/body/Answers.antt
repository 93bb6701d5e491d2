use Rattle.std.proofs.Common.{◌∙◌, ap}
use Rattle.std.specs.FinMap.{get}
use Rattle.index.proofs.index.Index.body.Goals as goal

pub returns : goal.returns
returns c = c.body.ensures ∙ ap (λ s. get s.documents c.args.name.now) c.self.view_is

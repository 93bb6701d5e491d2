use Rattle.std.proofs.Common.{◌∙◌, ap}
use Rattle.index.specs.Private.Plain.{plain_state}
use Rattle.index.proofs.index.Index.fill.Goals as goal

pub returns : goal.returns
returns g c = ap plain_state c.fill.ensures ∙ c.self.view_is

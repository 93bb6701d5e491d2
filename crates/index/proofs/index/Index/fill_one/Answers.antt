use Rattle.std.proofs.Common.{◌∙◌, ap}
use Rattle.index.specs.Private.Plain.{plain_state}
use Rattle.index.proofs.index.Index.fill_one.Goals as goal

pub returns : goal.returns
returns c = ap plain_state c.fill_one.ensures ∙ c.self.view_is

use Rattle.std.proofs.Common.{◌∙◌, ap}
use Rattle.index.specs.Private.Plain.{plain_state}
use Rattle.index.proofs.index.Index.expect_fill.Goals as goal

pub returns : goal.returns
returns c = ap plain_state c.expect_fill.ensures ∙ c.self.view_is

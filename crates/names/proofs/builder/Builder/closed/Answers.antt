use Rattle.std.proofs.Common.{◌∙◌}
use Rattle.names.proofs.builder.Builder.closed.Goals as goal

pub returns : goal.returns
returns c = c.in_ok-close.ensures.closed ∙ c.self.view_is

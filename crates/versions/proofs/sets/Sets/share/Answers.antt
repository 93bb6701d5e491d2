use Rattle.std.proofs.Common.{ap, ◌∙◌}
use Rattle.versions.specs.Private.Version.{said}
use Rattle.versions.proofs.sets.Sets.share.Goals as goal

pub returns : goal.returns
returns c = c.in_ok-segments.ensures ∙ (ap said c.deref.ensures.value ∙ c.self.view_is)

use Rattle.std.proofs.Common.{ap}
use Rattle.versions.specs.Private.Version.{said}
use Rattle.versions.proofs.sets.Sets.new.Goals as goal

pub returns : goal.returns
returns c = ap said c.new.ensures.items

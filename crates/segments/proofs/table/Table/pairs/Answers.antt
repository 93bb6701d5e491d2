use Rattle.std.proofs.Common.{◌∙◌, ap}
use Rattle.segments.specs.Private.Table.{places_in_all}
use Rattle.segments.proofs.table.Table.pairs.Goals as goal

pub returns : goal.returns
returns c = c.self.invariant.counted ∙ ap places_in_all c.self.view_is

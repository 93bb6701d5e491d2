use Rattle.std.proofs.Common.{ap, ◌∙◌}
use Rattle.segments.specs.Private.Table.{places_of}
use Rattle.segments.proofs.table.Table.places.Goals as goal

pub returns : goal.returns
returns c = c.places_near.ensures ∙ ap (places_of c.args.self.now) c.number.ensures.value

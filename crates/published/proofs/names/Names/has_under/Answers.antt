use Rattle.std.proofs.Common.{◌∙◌}
use Rattle.published.proofs.UnderNames.{first_shows, none_shows}
use Rattle.published.proofs.names.Names.has_under.Goals as goal

pub returns-in-Some : goal.returns-in-Some
returns-in-Some c =
    c.begins.ensures
    ∙ first_shows c.args.prefix.now c.args.self.now.names.keys c.range-from.result c.next.new.self c.in-Some.name.now c.range-from.ensures.ordered
    (c.range-from.ensures.between tt) c.in-Some.ensures.steps

pub returns-in-None : goal.returns-in-None
returns-in-None c =
    none_shows c.args.prefix.now c.args.self.now.names.keys c.range-from.result c.range-from.ensures.ordered (c.range-from.ensures.between tt)
    c.in-None.ensures.steps.0

use Rattle.std.proofs.Common.{◌∙◌}
use Rattle.desk.proofs.reading.Reading.look.Goals as goal

pub returns-clause-looked : goal.returns-clause-looked
returns-clause-looked g c = (_, c.look.ensures, c.deref.ensures ∙ c.in_ok-index.ensures.taken)

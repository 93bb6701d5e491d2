use Rattle.script.proofs.FieldLemmas.{fields_of-cut, fields_of-keyword}
use Rattle.script.proofs.cuts.cut_at_space.Goals as goal

pub returns-in-Some : goal.returns-in-Some
returns-in-Some c = fields_of-cut _ _ _ c.in-Some.ensures

pub returns-in-None : goal.returns-in-None
returns-in-None c = fields_of-keyword _ c.in-None.ensures

use Rattle.engine.proofs.LawLemmas.{no_first_line, one_first_line}
use Rattle.engine.proofs.laws.first_line_is_one.Goals as goal

pub returns-clause-one : goal.returns-clause-one
returns-clause-one c = one_first_line

pub returns-clause-none : goal.returns-clause-none
returns-clause-none c = no_first_line

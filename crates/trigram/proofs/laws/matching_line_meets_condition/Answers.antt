use Rattle.trigram.proofs.LawLemmas.{matching_line}
use Rattle.trigram.proofs.laws.matching_line_meets_condition.Goals as goal

pub returns : goal.returns
returns c = matching_line

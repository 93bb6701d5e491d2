use Rattle.views.proofs.LineLemmas.{split_first, split_last}
use Rattle.views.proofs.near.split_line.Goals as goal

pub returns-in-Some-clause-lines : goal.returns-in-Some-clause-lines
returns-in-Some-clause-lines c = split_first c.args.text.now c.in-Some.end c.in-Some.ensures

pub returns-in-None-clause-lines : goal.returns-in-None-clause-lines
returns-in-None-clause-lines c = split_last c.args.text.now c.requires c.in-None.ensures

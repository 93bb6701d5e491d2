use Rattle.engine.proofs.CutLemmas.{end_some, end_none}
use Rattle.engine.proofs.line.line_end.Goals as goal

pub returns-in-Some : goal.returns-in-Some
returns-in-Some c = end_some c.args.text.now c.args.from c.in-Some.at c.requires c.in-Some.ensures

pub returns-in-None : goal.returns-in-None
returns-in-None c = end_none c.args.text.now c.args.from c.requires c.in-None.ensures

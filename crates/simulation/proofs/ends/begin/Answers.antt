use Rattle.simulation.proofs.Lines.{first_held}
use Rattle.simulation.proofs.ends.begin.Goals as goal

pub returns : goal.returns
returns c = first_held c.args.held c.word_if.result c.args.entered.now c.requires c.word_if.ensures

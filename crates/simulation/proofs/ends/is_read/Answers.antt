use Rattle.simulation.proofs.Lines.{first_is}
use Rattle.simulation.proofs.ends.is_read.Goals as goal

pub returns : goal.returns
returns c = first_is c.args.cells.now

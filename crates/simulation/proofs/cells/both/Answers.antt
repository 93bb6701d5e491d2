use Rattle.ere.proofs.Bits.{has_and}
use Rattle.simulation.proofs.cells.both.Goals as goal

pub returns : goal.returns
returns c = λ b. has_and c.args.left c.args.right b

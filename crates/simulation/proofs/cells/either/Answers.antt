use Rattle.ere.proofs.Bits.{has_or}
use Rattle.simulation.proofs.cells.either.Goals as goal

pub returns : goal.returns
returns c = λ b. has_or c.args.left c.args.right b

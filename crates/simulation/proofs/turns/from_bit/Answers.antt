use Rattle.simulation.proofs.Moving as moving
use Rattle.simulation.proofs.turns.from_bit.Goals as goal

pub returns : goal.returns
returns c = moving.from_bit_is c.args.word c.args.bit

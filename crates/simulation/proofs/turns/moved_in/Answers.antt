use Rattle.simulation.proofs.Moving as moving
use Rattle.simulation.proofs.turns.moved_in.Goals as goal

pub returns : goal.returns
returns c = moving.moved_in_is c.args.word c.args.carried c.args.count c.requires.high

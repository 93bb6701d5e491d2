use Rattle.simulation.proofs.Moving as moving
use Rattle.simulation.proofs.turns.moved_down.Goals as goal

pub returns : goal.returns
returns c = moving.moved_down_is c.args.word c.args.count

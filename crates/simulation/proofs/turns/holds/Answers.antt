use Rattle.simulation.proofs.Moving as moving
use Rattle.simulation.proofs.turns.holds.Goals as goal

pub returns : goal.returns
returns c = moving.holds_is c.args.words.now c.args.k

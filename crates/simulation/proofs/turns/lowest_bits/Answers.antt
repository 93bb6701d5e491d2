use Rattle.simulation.proofs.Moving as moving
use Rattle.simulation.proofs.turns.lowest_bits.Goals as goal

pub returns-clause-low : goal.returns-clause-low
returns-clause-low c = moving.lowest_low c.args.word c.args.count c.requires.0 c.requires.1

pub returns-clause-high : goal.returns-clause-high
returns-clause-high c = moving.lowest_high c.args.word c.args.count c.requires.1

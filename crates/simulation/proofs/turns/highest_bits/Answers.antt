use Rattle.simulation.proofs.Moving as moving
use Rattle.simulation.proofs.turns.highest_bits.Goals as goal

pub returns-clause-low : goal.returns-clause-low
returns-clause-low c = moving.highest_low c.args.word c.args.count

pub returns-clause-high : goal.returns-clause-high
returns-clause-high c = moving.highest_high c.args.word c.args.count c.ranges.word.fits c.requires.1

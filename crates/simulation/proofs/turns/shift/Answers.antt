use Rattle.simulation.proofs.Moving as moving
use Rattle.simulation.proofs.turns.shift.Goals as goal

pub returns-else-stride-lt-BITS : goal.returns-else-stride-lt-BITS
returns-else-stride-lt-BITS c = moving.wide_shift c.args.stride c.args.entered.now c.args.read.now c.shift_wide.new.out c.if-stride-lt-BITS.false c.requires.stride c.shift_wide.ensures

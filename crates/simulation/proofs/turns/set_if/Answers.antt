use Rattle.std.proofs.Common.{arith}
use Rattle.simulation.proofs.Moving as moving
use Rattle.simulation.proofs.turns.set_if.Goals as goal

pub returns-then-held : goal.returns-then-held
returns-then-held c = λ j. moving.added_on c.args.held _ _ _ c.if-held.true (moving.set_one c.args.words.now c.args.k j (omega arith))

pub returns-else-held : goal.returns-else-held
returns-else-held c = λ j. moving.added_if c.args.held _ _ c.if-held.false

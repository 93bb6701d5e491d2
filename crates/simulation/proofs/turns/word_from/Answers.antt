use Rattle.std.proofs.Common.{arith}
use Rattle.simulation.proofs.Moving as moving
use Rattle.simulation.proofs.turns.word_from.Goals as goal

pub returns-then-i-from : goal.returns-then-i-from
returns-then-i-from c = moving.word_from_here c.args.words.now c.args.i c.args.from c.from_bit.result (omega arith) c.from_bit.ensures

pub returns-else-i-from : goal.returns-else-i-from
returns-else-i-from c = moving.word_from_later c.args.words.now c.args.i c.args.from (omega arith)

use Rattle.std.proofs.Common.{◌∙◌, arith}
use Rattle.simulation.specs.Pending.{at}
use Rattle.simulation.proofs.Words.{first_word, first_written, written_more, word_is}
use Rattle.simulation.proofs.cells.copy.Goals as goal

pub loop-i-init : goal.loop-i-init
loop-i-init c = λ k low. absurd (omega arith)

pub loop-i-preserved : goal.loop-i-preserved
loop-i-preserved c =
    written_more c.loop-i.to c.loop-i.i _ (at c.args.from.now) (omega arith) c.loop-i.invariant (λ b low. word_is c.args.from.now c.loop-i.i b low)

pub returns : goal.returns
returns c = λ k low. c.loop-i.invariant k (omega arith)

pub returns-then-from-eq1 : goal.returns-then-from-eq1
returns-then-from-eq1 c = λ k low. first_written c.args.to.now _ k (omega arith) (omega arith) ∙ first_word c.args.from.now k (omega arith)

use Rattle.std.proofs.Common.{◌&&◌, ap, ◌∙◌, arith}
use Rattle.simulation.specs.Pending.{at}
use Rattle.simulation.proofs.Words.{first_word, first_written, written_more, word_is}
use Rattle.simulation.proofs.cells.keep_if.Goals as goal

pub loop-i-init : goal.loop-i-init
loop-i-init c = λ k low. absurd (omega arith)

pub loop-i-preserved : goal.loop-i-preserved
loop-i-preserved c =
    written_more c.loop-i.to c.loop-i.i c.word_if-in-loop-i.result (λ k. c.args.held && at c.args.from.now k) (omega arith) c.loop-i.invariant
    (λ b low. c.word_if-in-loop-i.ensures b ∙ ap (λ t. c.args.held && t) (word_is c.args.from.now c.loop-i.i b low))

pub returns : goal.returns
returns c = λ k low. c.loop-i.invariant k (omega arith)

pub returns-then-words-eq1 : goal.returns-then-words-eq1
returns-then-words-eq1 c = λ k low.
    first_written c.args.to.now c.word_if.result k (omega arith) (omega arith) ∙ c.word_if.ensures k
    ∙ ap (λ t. c.args.held && t) (first_word c.args.from.now k (omega arith))

use Rattle.std.proofs.Common.{◌+◌, ◌*◌, ◌&&◌, ◌||◌, ap, ◌∙◌, arith, get_or}
use Rattle.ere.specs.Bits.{has_bit}
use Rattle.simulation.specs.Pending.{at}
use Rattle.simulation.proofs.Words.{first_word, first_written, written_more, word_is}
use Rattle.simulation.proofs.cells.either_if.Goals as goal

pub loop-i-init : goal.loop-i-init
loop-i-init c = λ k low. absurd (omega arith)

pub loop-i-preserved : goal.loop-i-preserved
loop-i-preserved c =
    written_more c.loop-i.to c.loop-i.i c.either-in-loop-i.result (λ k. at c.args.one.now k || (c.args.too && at c.args.other.now k)) (omega arith)
    c.loop-i.invariant
    (λ b low. c.either-in-loop-i.ensures b ∙ ap (λ t. has_bit (get_or c.args.one.now c.loop-i.i 0) b || t) (c.word_if-in-loop-i.ensures b)
    ∙ ap (λ t. t || (c.args.too && has_bit (get_or c.args.other.now c.loop-i.i 0) b)) (word_is c.args.one.now c.loop-i.i b low)
    ∙ ap (λ t. at c.args.one.now (c.loop-i.i * 64 + b) || (c.args.too && t)) (word_is c.args.other.now c.loop-i.i b low))

pub returns : goal.returns
returns c = λ k low. c.loop-i.invariant k (omega arith)

pub returns-then-words-eq1 : goal.returns-then-words-eq1
returns-then-words-eq1 c = λ k low.
    first_written c.args.to.now c.either.result k (omega arith) (omega arith) ∙ c.either.ensures k
    ∙ ap (λ t. has_bit (get_or c.args.one.now 0 0) k || t) (c.word_if.ensures k)
    ∙ ap (λ t. t || (c.args.too && has_bit (get_or c.args.other.now 0 0) k)) (first_word c.args.one.now k (omega arith))
    ∙ ap (λ t. at c.args.one.now k || (c.args.too && t)) (first_word c.args.other.now k (omega arith))

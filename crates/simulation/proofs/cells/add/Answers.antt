use Rattle.std.proofs.Common.{◌+◌, ◌*◌, ◌||◌, ap, ◌∙◌, arith, get_or}
use Rattle.ere.specs.Bits.{has_bit}
use Rattle.simulation.specs.Pending.{at}
use Rattle.simulation.proofs.Words.{first_word, first_written, changed_none, changed_more, word_is}
use Rattle.simulation.proofs.cells.add.Goals as goal

pub loop-i-init : goal.loop-i-init
loop-i-init c = changed_none c.args.to.now (λ k. at c.args.to.now k || at c.args.more.now k)

pub loop-i-preserved : goal.loop-i-preserved
loop-i-preserved c =
    changed_more c.args.to.now c.loop-i.to c.loop-i.i c.either-in-loop-i.result (λ k. at c.args.to.now k || at c.args.more.now k) (omega arith)
    c.loop-i.invariant
    (λ b low. c.either-in-loop-i.ensures b ∙ ap (λ t. t || has_bit (get_or c.args.more.now c.loop-i.i 0) b) (word_is c.loop-i.to c.loop-i.i b low)
    ∙ ap (λ t. t || has_bit (get_or c.args.more.now c.loop-i.i 0) b) (c.loop-i.invariant.rest (c.loop-i.i * 64 + b) (omega arith))
    ∙ ap (λ t. at c.args.to.now (c.loop-i.i * 64 + b) || t) (word_is c.args.more.now c.loop-i.i b low))

pub returns : goal.returns
returns c = λ k low. c.loop-i.invariant.each k (omega arith)

pub returns-then-words-eq1 : goal.returns-then-words-eq1
returns-then-words-eq1 c = λ k low.
    first_written c.args.to.now c.either.result k (omega arith) (omega arith) ∙ c.either.ensures k
    ∙ ap (λ t. t || has_bit (get_or c.args.more.now 0 0) k) (first_word c.args.to.now k (omega arith))
    ∙ ap (λ t. at c.args.to.now k || t) (first_word c.args.more.now k (omega arith))

use Rattle.std.proofs.Common.{arith}
use Rattle.simulation.proofs.Moving as moving
use Rattle.simulation.proofs.turns.add_from.Goals as goal

pub loop-i-init : goal.loop-i-init
loop-i-init c = moving.from_first c.args.from c.args.more.now c.args.to.now

pub loop-i-preserved : goal.loop-i-preserved
loop-i-preserved c =
    moving.from_more c.args.from c.args.more.now c.args.to.now c.loop-i.to c.loop-i.i c.word_from.result c.either.result (omega arith) c.loop-i.invariant
    c.word_from.ensures c.either.ensures

pub returns-then-not-on : goal.returns-then-not-on
returns-then-not-on c = λ k low. moving.added_if c.args.on _ _ c.if-not-on.true

pub returns : goal.returns
returns c = λ k low.
    moving.added_on c.args.on _ _ _ c.if-not-on.false
    (moving.from_last c.args.from c.args.more.now c.args.to.now c.loop-i.to c.loop-i.i (omega arith) c.loop-i.invariant k low)

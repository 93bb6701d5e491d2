use Rattle.std.proofs.Common.{arith}
use Rattle.simulation.proofs.Moving as moving
use Rattle.simulation.proofs.turns.add_repeated.Goals as goal

pub loop-k-init : goal.loop-k-init
loop-k-init c = moving.repeated_first c.args.stride c.args.entered.now c.args.to.now

pub loop-k-preserved : goal.loop-k-preserved
loop-k-preserved c =
    moving.repeated_more c.args.stride c.loop-k.k c.args.entered.now c.args.to.now c.loop-k.to c.set_if.new.words c.holds-held.result (omega arith) c.loop-k.invariant
    c.holds-held.ensures c.set_if.ensures

pub returns-then-not-on : goal.returns-then-not-on
returns-then-not-on c = λ k low. moving.added_if c.args.on _ _ c.if-not-on.true

pub returns : goal.returns
returns c = λ k low.
    moving.added_on c.args.on _ _ _ c.if-not-on.false
    (moving.repeated_last c.args.stride c.loop-k.k c.args.all c.args.entered.now c.args.to.now c.loop-k.to c.loop-k.invariant (omega arith) k low)

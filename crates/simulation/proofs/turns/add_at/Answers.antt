use Rattle.std.proofs.Common.{◌+◌, ◌*◌, ◌||◌, arith}
use Rattle.simulation.specs.Pending.{at}
use Rattle.simulation.proofs.Words.{changed_none}
use Rattle.simulation.proofs.Moving as moving
use Rattle.simulation.proofs.turns.add_at.Goals as goal

pub loop-i-init : goal.loop-i-init
loop-i-init c = changed_none c.args.to.now (λ k. at c.args.to.now k || at c.args.more.now (64 * c.args.from + k))

pub loop-i-preserved : goal.loop-i-preserved
loop-i-preserved c =
    moving.at_more c.args.from c.args.more.now c.args.to.now c.loop-i.to c.loop-i.i c.either.result (omega arith) c.loop-i.invariant c.either.ensures

pub returns : goal.returns
returns c = λ k low. c.loop-i.invariant.each k (omega arith)

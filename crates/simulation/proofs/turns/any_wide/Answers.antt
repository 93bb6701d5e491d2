use Rattle.std.proofs.Common.{◌+◌, ◌*◌, length, arith}
use Rattle.simulation.specs.Pending.{at}
use Rattle.simulation.proofs.Moving as moving
use Rattle.simulation.proofs.turns.any_wide.Goals as goal

pub keep_if-requires-clause-from : goal.keep_if-requires-clause-from
keep_if-requires-clause-from c =
    omega (arith, moving.stride_below c.args.counts.copies c.args.counts.stride c.args.counts.all c.requires.some c.requires.all, c.requires.stride, c.requires.read)

pub overflow_mul-turn : goal.overflow_mul-turn
overflow_mul-turn c =
    omega (arith, moving.wide_turn c.loop-turn.turn c.args.counts.copies c.args.counts.stride c.args.counts.all (length c.args.own.now) c.args.read.now c.loop-turn-test.true c.requires.all c.requires.stride c.requires.read)

pub add_at-requires : goal.add_at-requires
add_at-requires c =
    omega (arith, moving.wide_turn c.loop-turn.turn c.args.counts.copies c.args.counts.stride c.args.counts.all (length c.args.own.now) c.args.read.now c.loop-turn-test.true c.requires.all c.requires.stride c.requires.read)

pub loop-turn-init : goal.loop-turn-init
loop-turn-init c =
    (omega arith, λ k low. moving.before_none c.args.counts c.args.lowest c.args.read.now k _ (c.keep_if.ensures k (omega (arith, c.requires.stride))))

pub loop-turn-preserved : goal.loop-turn-preserved
loop-turn-preserved c = (
  omega arith,
  λ k low.
      moving.before_more c.args.counts c.args.lowest c.loop-turn.turn c.args.read.now k (at c.loop-turn.own k)
      (at c.args.read.now (64 * (c.loop-turn.turn * length c.args.own.now) + k)) (at c.add_at.new.to k) (omega arith) (c.loop-turn.invariant.1 k low)
      (moving.wide_cell c.loop-turn.turn c.args.counts.stride (length c.args.own.now) k c.args.read.now c.requires.stride)
      (c.add_at.ensures k (omega (arith, c.requires.stride))),
)

pub returns : goal.returns
returns c = λ k low.
    let within = c.loop-turn.invariant.0 in
    moving.before_all c.args.counts c.args.lowest c.loop-turn.turn c.args.read.now k _ (omega arith) (λ h. omega arith) (λ h. omega arith)
    (c.loop-turn.invariant.1 k low)

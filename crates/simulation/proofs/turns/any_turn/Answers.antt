use Rattle.std.proofs.Common.{arith}
use Rattle.simulation.proofs.Moving as moving
use Rattle.simulation.proofs.turns.any_turn.Goals as goal

pub returns-then-counts-lt-BITS : goal.returns-then-counts-lt-BITS
returns-then-counts-lt-BITS c = λ k low.
    moving.first_any c.args.counts c.args.lowest c.args.read.now c.args.own.now c.any_narrow.result k (omega arith) (omega arith) (c.any_narrow.ensures k low)

pub any_narrow-requires-clause-stride : goal.any_narrow-requires-clause-stride
any_narrow-requires-clause-stride c =
    moving.narrow_is c.args.counts.stride c.args.own.now c.if-counts-lt-BITS.true c.requires.stride c.requires.some.1

pub any_wide-requires-clause-stride : goal.any_wide-requires-clause-stride
any_wide-requires-clause-stride c = moving.wide_is c.args.counts.stride c.args.own.now c.if-counts-lt-BITS.false c.requires.stride

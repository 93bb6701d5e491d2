use Rattle.std.proofs.Common.{◌&&◌, ◌||◌, ◌-◌, nat_le, ap, ◌∙◌, arith}
use Rattle.simulation.specs.Pending.{at}
use Rattle.simulation.specs.Private.Words.{repeated}
use Rattle.simulation.proofs.Moving as moving
use Rattle.simulation.proofs.turns.begin_turns.Goals as goal

pub shift-requires-clause-fits : goal.shift-requires-clause-fits
shift-requires-clause-fits c =
    omega (arith, moving.stride_below c.args.counts.copies c.args.counts.stride c.args.counts.all c.requires.some.0 c.requires.all, c.requires.out)

pub overflow_sub-counts : goal.overflow_sub-counts
overflow_sub-counts c = moving.stride_below c.args.counts.copies c.args.counts.stride c.args.counts.all c.requires.some.0 c.requires.all

pub returns : goal.returns
returns c =
    moving.begun_turns c.args.counts c.args.gap c.args.entered.now c.args.read.now c.add_repeated.new.to c.requires.some.1 c.requires.all
    (λ k low.
    c.add_repeated.ensures k low
    ∙ ap (λ t. t || (c.args.gap && repeated c.args.counts.stride c.args.entered.now k))
    (c.add_from.ensures k (omega (arith, c.requires.out))
    ∙ ap (λ t. t || (c.args.counts.unbounded && (nat_le (c.args.counts.all - c.args.counts.stride) k && at c.args.read.now k)))
    (c.shift.ensures k (omega (arith, c.requires.out)))))

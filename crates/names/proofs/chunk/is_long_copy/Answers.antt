use Rattle.std.proofs.Common.{arith}
use Rattle.names.proofs.LongLemmas.{long_at_once, long_by_rest}
use Rattle.names.proofs.chunk.is_long_copy.Goals as goal

pub returns-then-to-most : goal.returns-then-to-most
returns-then-to-most c = long_at_once c.args.most c.args.from.now c.args.to.now c.args.prefix.now c.args.suffix.now c.if-to-most.true

pub returns : goal.returns
returns c =
    long_by_rest c.args.most c.saturating_sub-rest.result c.args.from.now c.args.to.now c.args.prefix.now c.args.suffix.now (omega (arith, c.if-to-most.false))
    c.saturating_sub-rest.ensures

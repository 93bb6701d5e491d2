use Rattle.std.proofs.Common.{arith}
use Rattle.query.proofs.TextLemmas.{short_suffix}
use Rattle.query.proofs.texts.is_short_before_one.Goals as goal

pub returns-then-prefix-len-lt-SHORTEST : goal.returns-then-prefix-len-lt-SHORTEST
returns-then-prefix-len-lt-SHORTEST c =
    λ yes.
    short_suffix c.args.prefix.now c.args.right.now c.loop-suffix.suffix-index c.suffix-item.result c.loop-suffix-test.true
    c.suffix-item.is (omega (arith, c.if-prefix-len-lt-SHORTEST.true, c.len.ensures))

use Rattle.query.specs.Texts.{texts_of}
use Rattle.query.proofs.TextLemmas.{short_prefix}
use Rattle.query.proofs.texts.has_short_join.Goals as goal

pub returns-then-is_short_before_one : goal.returns-then-is_short_before_one
returns-then-is_short_before_one c =
    λ yes.
    short_prefix c.args.left.now (texts_of c.args.right.now) c.loop-prefix.prefix-index c.prefix-item.result c.loop-prefix-test.true
    c.prefix-item.is (rw c.as_slice.ensures.value at (c.is_short_before_one.ensures c.if-is_short_before_one.true))

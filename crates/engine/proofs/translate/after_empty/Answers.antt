use Rattle.engine.proofs.SameLineLemmas.{without_first}
use Rattle.engine.proofs.translate.after_empty.Goals as goal

pub loop-rest-preserved : goal.loop-rest-preserved
loop-rest-preserved c =
    without_first c.args.members.now c.loop-rest.rest.now c.first-item.result c.in-len1-up.len_at_least c.first-item.is
    (c.can_be_empty.ensures c.if-not-can_be_empty.false) c.loop-rest.invariant

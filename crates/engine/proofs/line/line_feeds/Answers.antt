use Rattle.std.proofs.Common.{ap, arith}
use Rattle.engine.specs.FirstLine.{line_feeds}
use Rattle.engine.proofs.CutLemmas.{line_feeds_cut, line_feeds_few}
use Rattle.engine.proofs.line.line_feeds.Goals as goal

pub overflow_add-count : goal.overflow_add-count
overflow_add-count c =
    let front = ap line_feeds c.split_at.ensures.front in
    omega (arith, c.line_feeds_of_block.ensures, front, line_feeds_cut c.loop-rest.rest.now 192, c.loop-rest.invariant, line_feeds_few c.args.text.now)

pub loop-rest-preserved : goal.loop-rest-preserved
loop-rest-preserved c =
    let front = ap line_feeds c.split_at.ensures.front in
    let back = ap line_feeds c.split_at.ensures.back in
    omega (arith, c.line_feeds_of_block.ensures, front, back, line_feeds_cut c.loop-rest.rest.now 192, c.loop-rest.invariant)

pub overflow_add-result : goal.overflow_add-result
overflow_add-result c = omega (arith, c.line_feeds_of_block-2.ensures, c.loop-rest.invariant, line_feeds_few c.args.text.now)

use Rattle.std.proofs.Common.{arith}
use Rattle.posting.proofs.Cuts.{cut_none, cut_more, cut_weaker}
use Rattle.posting.proofs.gaps.cut_few.Goals as goal

pub loop-few-init : goal.loop-few-init
loop-few-init c = record {
  cut = cut_none c.args.bytes.now c.args.last c.args.number c.requires.spelled c.requires.last;
  shorter = omega arith;
}

pub loop-few-preserved : goal.loop-few-preserved
loop-few-preserved c = record {
  cut =
      cut_more c.args.bytes.now c.args.number c.loop-few.front.now c.loop-few.at c.cut_number-before.result.0.now
      c.cut_number-before.result.1 c.loop-few.invariant.cut
      (cut_weaker c.loop-few.front.now c.loop-few.at c.args.number c.cut_number-before.result.0.now c.cut_number-before.result.1
      c.cut_number-before.ensures.cut c.if-at-number.false);
  shorter = omega (arith, c.cut_number-before.ensures.shorter, c.loop-few.invariant.shorter);
}

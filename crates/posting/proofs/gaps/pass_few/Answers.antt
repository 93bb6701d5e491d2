use Rattle.std.proofs.Common.{arith}
use Rattle.posting.proofs.Walks.{passed_none, passed_more}
use Rattle.posting.proofs.gaps.pass_few.Goals as goal

pub loop-few-init : goal.loop-few-init
loop-few-init c = record {
  passed = passed_none c.args.before c.args.bytes.now c.args.number c.requires;
  shorter = omega arith;
}

pub loop-few-preserved : goal.loop-few-preserved
loop-few-preserved c = record {
  passed =
      passed_more c.args.before c.args.bytes.now c.args.number c.loop-few.at c.loop-few.rest.now c.first_number-next.result.0
      c.first_number-next.result.1.now c.loop-few.invariant.passed c.first_number-next.ensures c.if-number-next.false;
  shorter = omega (arith, c.first_number-next.ensures.shorter, c.loop-few.invariant.shorter);
}

use Rattle.std.proofs.Common.{arith}
use Rattle.posting.proofs.Cuts.{cut_more, cut_weaker}
use Rattle.posting.proofs.gaps.step_back.Goals as goal

pub returns-clause-some : goal.returns-clause-some
returns-clause-some c = (
  cut_more c.args.bytes.now c.args.number c.cut_number-before.result.0.now c.cut_number-before.result.1 c.cut_few.result.0.now c.cut_few.result.1
      (cut_weaker c.args.bytes.now c.args.last c.args.number c.cut_number-before.result.0.now c.cut_number-before.result.1
      c.cut_number-before.ensures.cut c.if-last-number.false) c.cut_few.ensures.cut,
  omega (arith, c.cut_number-before.ensures.shorter, c.cut_few.ensures.shorter),
)

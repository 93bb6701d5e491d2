use Rattle.std.proofs.Common.{arith}
use Rattle.std.proofs.lemmas.List.{length-drop, take_rest}
use Rattle.posting.proofs.Walks.{passed_one, passed_on, passed_block, next_some}
use Rattle.posting.proofs.gaps.step.Goals as goal

pub returns-then-sum-saturating_sub-clause-some : goal.returns-then-sum-saturating_sub-clause-some
returns-then-sum-saturating_sub-clause-some c =
    rw (take_rest c.args.bytes.now 32) (
      passed_block c.args.before c.args.bytes.now c.args.number c.in-Some.sum c.requires.spelled c.in-Some.ensures (omega (arith, c.saturating_sub.ensures)),
      omega (arith, length-drop 32 c.args.bytes.now, c.in-Some.ensures.long),
    )

pub returns-clause-some : goal.returns-clause-some
returns-clause-some c =
    let one =
    passed_one c.args.before c.args.bytes.now c.args.number c.first_number-next.result.0 c.first_number-next.result.1.now
    c.requires.spelled c.first_number-next.ensures c.if-number-next.false in (
      passed_on c.args.before c.args.bytes.now c.args.number c.first_number-next.result.0 c.first_number-next.result.1.now
          c.pass_few.result.1 c.pass_few.result.0.now one c.pass_few.ensures.passed,
      omega (arith, c.first_number-next.ensures.shorter, c.pass_few.ensures.shorter),
    )

pub returns-then-number-next-clause-none : goal.returns-then-number-next-clause-none
returns-then-number-next-clause-none c =
    next_some c.args.number c.args.before c.args.bytes.now c.first_number-next.result.0 c.first_number-next.result.1.now c.requires.spelled
    c.first_number-next.ensures c.if-number-next.true

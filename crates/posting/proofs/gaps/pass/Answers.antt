use Rattle.std.proofs.Common.{◌≡◌, length, arith}
use Rattle.std.proofs.lemmas.Bool.Decides.{nat_tests}
use Rattle.posting.proofs.Walks.{passed_on, next_end}
use Rattle.posting.proofs.gaps.pass.Goals as goal

pub loop-rest-init : goal.loop-rest-init
loop-rest-init c = c.pass_few-at.ensures.passed

pub loop-rest-preserved : goal.loop-rest-preserved
loop-rest-preserved c =
    passed_on c.args.before c.args.bytes.now c.args.number c.loop-rest.at c.loop-rest.rest.now c.in-Some.next c.in-Some.after.now
    c.loop-rest.invariant c.in-Some.ensures.some.0

pub returns-clause-next : goal.returns-clause-next
returns-clause-next c =
    let none : length c.loop-rest.rest.now ≡ 0 = grind (arith, nat_tests) in
    next_end c.args.number c.loop-rest.at c.loop-rest.rest.now none

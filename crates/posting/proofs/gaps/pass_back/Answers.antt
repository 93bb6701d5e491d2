use Rattle.std.proofs.Common.{◌≡◌, length, arith}
use Rattle.std.proofs.lemmas.Bool.Decides.{nat_tests}
use Rattle.std.proofs.lemmas.List.{take_rest}
use Rattle.posting.proofs.Cuts.{cut_none, cut_more, cut_passed, cut_next, cut_all}
use Rattle.posting.proofs.gaps.pass_back.Goals as goal

pub loop-front-init : goal.loop-front-init
loop-front-init c = cut_none c.args.bytes.now c.args.last c.args.number c.requires.spelled c.requires.last

pub loop-front-preserved : goal.loop-front-preserved
loop-front-preserved c =
    cut_more c.args.bytes.now c.args.number c.loop-front.front.now c.loop-front.at c.in-Some.fewer.now c.in-Some.before
    c.loop-front.invariant c.in-Some.ensures.some.0

pub returns-in-None-clause-passed : goal.returns-in-None-clause-passed
returns-in-None-clause-passed c =
    rw (take_rest c.args.bytes.now (length c.loop-front.front.now))
    (cut_passed c.args.bytes.now c.args.number c.loop-front.front.now c.loop-front.at c.requires.spelled c.loop-front.invariant
    c.in-None.ensures.none)

pub returns-in-None-clause-next : goal.returns-in-None-clause-next
returns-in-None-clause-next c =
    rw (take_rest c.args.bytes.now (length c.loop-front.front.now))
    (cut_next c.args.bytes.now c.args.number c.loop-front.front.now c.loop-front.at c.requires.spelled c.loop-front.invariant)

pub returns-clause-passed : goal.returns-clause-passed
returns-clause-passed c =
    let none : length c.loop-front.front.now ≡ 0 = grind (arith, nat_tests) in
    (cut_all c.args.bytes.now c.args.number c.loop-front.front.now c.loop-front.at c.requires.spelled c.loop-front.invariant none).0

pub returns-clause-next : goal.returns-clause-next
returns-clause-next c =
    let none : length c.loop-front.front.now ≡ 0 = grind (arith, nat_tests) in
    (cut_all c.args.bytes.now c.args.number c.loop-front.front.now c.loop-front.at c.requires.spelled c.loop-front.invariant none).1

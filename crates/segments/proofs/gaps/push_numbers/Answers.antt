use Rattle.std.proofs.Common.{◌≡◌, length, arith}
use Rattle.std.proofs.lemmas.Bool.Decides.{nat_tests}
use Rattle.segments.proofs.GapLemmas.{read_none, read_more, read_ends}
use Rattle.segments.proofs.gaps.push_numbers.Goals as goal

pub loop-rest-init : goal.loop-rest-init
loop-rest-init c = read_none c.args.numbers.now.items c.args.bytes.now c.requires

pub loop-rest-preserved : goal.loop-rest-preserved
loop-rest-preserved c =
    rw c.in_ok-push.ensures.items
    (read_more c.args.numbers.now.items c.args.bytes.now c.loop-rest.before c.loop-rest.rest.now c.loop-rest.numbers.items c.first_number-number.result.0
    c.first_number-number.result.1.now c.loop-rest.invariant c.first_number-number.ensures)

pub returns : goal.returns
returns c =
    let none : length c.loop-rest.rest.now ≡ 0 = grind (arith, nat_tests) in
    read_ends c.args.numbers.now.items c.args.bytes.now c.loop-rest.before c.loop-rest.rest.now c.loop-rest.numbers.items c.loop-rest.invariant none

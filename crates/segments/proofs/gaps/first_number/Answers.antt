use Rattle.std.proofs.Common.{arith}
use Rattle.segments.proofs.GapLemmas.{first_found}
use Rattle.segments.proofs.gaps.first_number.Goals as goal

pub overflow_add-result : goal.overflow_add-result
overflow_add-result c =
    let found =
    first_found c.args.before c.args.bytes.now c.first_gap-gap.result.0 c.first_gap-gap.result.1.now c.requires.spelled c.requires.some
    c.first_gap-gap.ensures.gap in
    omega (arith, found.0)

pub returns : goal.returns
returns c =
    (first_found c.args.before c.args.bytes.now c.first_gap-gap.result.0 c.first_gap-gap.result.1.now c.requires.spelled c.requires.some
    c.first_gap-gap.ensures.gap).1

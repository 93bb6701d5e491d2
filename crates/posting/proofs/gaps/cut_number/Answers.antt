use Rattle.std.proofs.Common.{arith, ◌∙◌}
use Rattle.std.proofs.lemmas.List.{length-take-le, take_rest}
use Rattle.posting.proofs.Cuts.{cut_last, gap_fits}
use Rattle.posting.proofs.gaps.cut_number.Goals as goal

pub overflow_sub-result : goal.overflow_sub-result
overflow_sub-result c =
    gap_fits c.args.bytes.now c.args.last c.last_place-place.result c.first_gap-gap.result.0 c.requires.spelled c.requires.last c.last_place-place.ensures
    (λ more g rest small fits is. (c.first_gap-gap.ensures.gap more g rest small fits (take_rest c.args.bytes.now c.last_place-place.result ∙ is)).0)

pub returns-clause-cut : goal.returns-clause-cut
returns-clause-cut c =
    cut_last c.args.bytes.now c.args.last c.last_place-place.result c.first_gap-gap.result.0 c.requires.spelled c.requires.last c.last_place-place.ensures
    (λ more g rest small fits is.
    (c.first_gap-gap.ensures.gap more g rest small fits (take_rest c.args.bytes.now c.last_place-place.result ∙ is)).0) c.args.last
    (omega arith)

pub returns-clause-shorter : goal.returns-clause-shorter
returns-clause-shorter c =
    omega (
      arith,
      c.last_place-place.ensures.inside,
      length-take-le c.last_place-place.result c.args.bytes.now (omega (arith, c.last_place-place.ensures.inside)),
    )

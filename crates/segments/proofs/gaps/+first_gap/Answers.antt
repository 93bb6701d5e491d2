use Rattle.segments.proofs.GapLemmas.{first_none, first_low, first_high}
use Rattle.segments.proofs.gaps.+first_gap.Goals as goal

pub returns-in-None : goal.returns-in-None
returns-in-None t c = record { gap = λ more gap rest small fits is. absurd (first_none c.args.bytes.now c.in-None.ensures.cases more gap rest is) }

pub returns-then-low-lt128 : goal.returns-then-low-lt128
returns-then-low-lt128 t c =
    record {
      gap =
          λ more gap rest small fits is.
          first_low c.in-Some.byte.now c.args.bytes.now c.in-Some.rest.now c.in-Some.ensures.cases.0 c.if-low-lt128.true more gap rest
          small is;
    }

pub returns-else-low-lt128 : goal.returns-else-low-lt128
returns-else-low-lt128 t c =
    record {
      gap =
          λ more gap rest small fits is.
          first_high c.in-Some.byte.now c.args.bytes.now c.in-Some.rest.now c.in-Some.ensures.cases.0 c.if-low-lt128.false more gap rest
          small fits is c.first_gap-high.result.0 c.first_gap-high.result.1.now c.first_gap-high.ensures.gap;
    }

use Rattle.std.proofs.Common.{arith, ap}
use Rattle.std.specs.Prelude.{count_by, eqb}
use Rattle.steps.proofs.WrittenLemmas.{run_counted, once_at_most}
use Rattle.steps.proofs.laws.one_entry_each.Goals as goal

pub returns-clause-one : goal.returns-clause-one
returns-clause-one g c =
    λ limits readers from items entries s first run empty number some le.
    let is = run_counted g.H.Holding.holds limits readers from first run in
    omega (
      arith,
      is.once number some (omega (arith, le, is.searches)),
      ap (λ l. count_by (λ x. eqb x.number number) l) empty,
    )

pub returns-clause-at_most : goal.returns-clause-at_most
returns-clause-at_most g c =
    λ limits readers from items entries s first run number.
    once_at_most items entries s (run_counted g.H.Holding.holds limits readers from first run) number

pub returns-clause-without_entry : goal.returns-clause-without_entry
returns-clause-without_entry g c =
    λ limits readers from items entries s first run.
    let is = run_counted g.H.Holding.holds limits readers from first run in
    omega (arith, is.still_open, is.searches)

pub returns-clause-no_other : goal.returns-clause-no_other
returns-clause-no_other g c =
    λ limits readers from items entries s first run.
    let is = run_counted g.H.Holding.holds limits readers from first run in
    (omega (arith, is.zero), λ number lt. omega (arith, is.past number (omega (arith, lt, is.searches))))

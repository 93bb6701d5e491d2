use Rattle.steps.proofs.RunLemmas.{steps_have_rows, same_failures}
use Rattle.steps.proofs.laws.steps_have_rows.Goals as goal

pub returns : goal.returns
returns g c =
    λ limits readers from items entries s first run.
    let is = steps_have_rows g.H.Holding.holds limits readers from first run in
    (is.rows, is.are, is.same_items, is.same_entries, same_failures is.rows entries is.same_entries)

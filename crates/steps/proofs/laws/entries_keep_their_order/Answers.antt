use Rattle.std.proofs.Common.{refl}
use Rattle.steps.proofs.RunLemmas.{steps_have_rows, same_failures}
use Rattle.steps.proofs.laws.entries_keep_their_order.Goals as goal

pub returns : goal.returns
returns g c =
    λ limits from items entries s first run.
    let is = steps_have_rows g.H.Holding.holds limits 0 from first run in
    (is.rows, is.are, is.same_items, is.in_order refl, same_failures is.rows entries is.same_entries)

use Rattle.std.proofs.Common.{ap}
use Rattle.tsearch.proofs.EndLemmas.{is_legal}
use Rattle.tsearch.proofs.run.collect_all.Goals as goal

pub returns-in-Ok-clause-legal : goal.returns-in-Ok-clause-legal
returns-in-Ok-clause-legal g c = λ script known.
    rw c.into_entries.ensures
    (is_legal _ c.args.options script _ _ _ (record { entries = c.new-collected.ensures.0; places = c.new-collected.ensures.1 }) _ _ _ _ _
    (ap (λ s. s.limits) c.requires.first) (rw known at c.in-Ok.ensures.ok))

use Rattle.std.proofs.Common.{refl}
use Rattle.script.specs.Items.{numbered, cancel}
use Rattle.steps.proofs.StepLemmas.{asked_before}
use Rattle.steps.proofs.RunLemmas.{steps_have_rows}
use Rattle.steps.proofs.WrittenLemmas.{cancel_refuses, refused_by_cancel}
use Rattle.steps.proofs.laws.cancels_refuse_open_searches.Goals as goal

pub returns-clause-refused : goal.returns-clause-refused
returns-clause-refused g c =
    λ limits readers from items entries s first run place search is_open line written s' step.
    let holds = g.H.Holding.holds in
    let rows = steps_have_rows holds limits readers from first run in
    cancel_refuses holds limits readers s (numbered line (cancel search.number)) written s' place search is_open
    (asked_before holds limits readers s rows.rows rows.are place search is_open) refl step

pub returns-clause-by_cancel : goal.returns-clause-by_cancel
returns-clause-by_cancel g c = λ limits readers s taken number s' step. refused_by_cancel g.H.Holding.holds limits readers s taken _ s' number refl step

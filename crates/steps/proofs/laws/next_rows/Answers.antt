use Rattle.steps.proofs.StepLemmas.{next_rows}
use Rattle.steps.proofs.laws.next_rows.Goals as goal

pub returns : goal.returns
returns g c = λ limits readers s rows taken written s' are step. next_rows g.H.Holding.holds limits readers s rows are taken written s' step

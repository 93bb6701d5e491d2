use Rattle.steps.proofs.StepLemmas.{first_rows}
use Rattle.steps.proofs.laws.first_rows.Goals as goal

pub returns : goal.returns
returns g c = first_rows g.H.Holding.holds

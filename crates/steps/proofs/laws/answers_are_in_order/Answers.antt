use Rattle.steps.proofs.OrderLemmas.{answers_in_order}
use Rattle.steps.proofs.laws.answers_are_in_order.Goals as goal

pub returns : goal.returns
returns g c = λ limits readers from items entries s first run. answers_in_order g.H.Holding.holds limits readers from first run

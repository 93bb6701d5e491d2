use Rattle.steps.proofs.OrderLemmas.{not_older}
use Rattle.steps.proofs.laws.answers_are_not_older.Goals as goal

pub returns : goal.returns
returns g c =
    λ limits readers from items entries s first run search s' one step items' entries' s'' run'.
    not_older g.H.Holding.holds limits readers from first run search s' one step run'

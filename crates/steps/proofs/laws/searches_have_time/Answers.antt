use Rattle.steps.proofs.WrittenLemmas.{run_timely}
use Rattle.steps.proofs.laws.searches_have_time.Goals as goal

pub returns : goal.returns
returns g c = λ limits readers from items entries s untimed run. run_timely g.H.Holding.holds limits readers untimed from run

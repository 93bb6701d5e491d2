use Rattle.steps.proofs.WrittenLemmas.{run_lines}
use Rattle.steps.proofs.laws.lines_keep_their_order.Goals as goal

pub returns : goal.returns
returns g c = λ limits readers from items entries s run. run_lines g.H.Holding.holds limits readers from run

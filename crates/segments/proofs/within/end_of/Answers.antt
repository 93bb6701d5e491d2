use Rattle.segments.proofs.Searching.{are_below}
use Rattle.segments.proofs.within.end_of.Goals as goal

pub returns-in-None : goal.returns-in-None
returns-in-None c = rw c.in-None.is (are_below c.args.count)

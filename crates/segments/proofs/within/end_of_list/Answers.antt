use Rattle.segments.proofs.Searching.{all_below_last}
use Rattle.segments.proofs.within.end_of_list.Goals as goal

pub returns-in-Some : goal.returns-in-Some
returns-in-Some c = all_below_last c.args.numbers.now c.in-Some.last.now c.requires c.in-Some.ensures.value

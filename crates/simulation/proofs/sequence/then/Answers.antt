use Rattle.simulation.proofs.Sequences as sequences
use Rattle.simulation.proofs.sequence.then.Goals as goal

pub returns : goal.returns
returns c =
    sequences.then_part c.args.sequence c.after.result c.in_ok-before.before c.args.one c.in_ok-pair.field-0 c.args.copies c.after.ensures.before c.after.ensures.row
    c.in_ok-before.ensures c.in_ok-pair.ensures

pub returns-in-Some : goal.returns-in-Some
returns-in-Some c =
    sequences.goes_on_place c.in-Some.place c.args.one c.args.sequence c.args.copies c.then_place.result c.in-Some.ensures c.then_place.ensures

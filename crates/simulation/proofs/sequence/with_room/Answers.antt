use Rattle.simulation.proofs.Sequences as sequences
use Rattle.simulation.proofs.sequence.with_room.Goals as goal

pub returns-clause-same : goal.returns-clause-same
returns-clause-same c =
    sequences.settled_same c.args.sequence c.after.result c.in_ok-settled.field-0 c.args.copies c.after.ensures.before c.after.ensures.row c.in_ok-settled.ensures

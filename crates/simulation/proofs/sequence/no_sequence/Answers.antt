use Rattle.std.proofs.Common.{◌∙◌}
use Rattle.simulation.proofs.Sequences as sequences
use Rattle.simulation.proofs.sequence.no_sequence.Goals as goal

pub returns-clause-same : goal.returns-clause-same
returns-clause-same c =
    sequences.none_same c.no_bytes.result c.after.result c.no_bytes.ensures.node (c.no_bytes.ensures.gaps ∙ c.everywhere.ensures) c.after.ensures.before
    c.after.ensures.row

pub returns-clause-valid : goal.returns-clause-valid
returns-clause-valid c =
    sequences.none_valid c.no_bytes.result c.after.result c.args.copies c.no_bytes.ensures.node (c.no_bytes.ensures.gaps ∙ c.everywhere.ensures)
    c.no_bytes.ensures.size c.after.ensures.before c.after.ensures.row

use Rattle.std.proofs.Common.{refl}
use Rattle.simulation.specs.Nodes.{shape}
use Rattle.simulation.proofs.Building.{as_part, once_part}
use Rattle.simulation.proofs.pack.once.Goals as goal

pub returns : goal.returns
returns c = λ tree copies h.
    as_part _ (shape c.args.one.node) _ _ _ copies _ _ refl c.times_gaps.ensures refl
    (once_part tree (shape c.args.one.node) c.args.one.gaps c.args.least copies c.args.one.size c.requires h)

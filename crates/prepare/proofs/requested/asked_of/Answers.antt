use Rattle.std.proofs.Common.{ap}
use Rattle.prepare.proofs.requested.asked_of.Goals as goal

pub returns-clause-asked : goal.returns-clause-asked
returns-clause-asked c =
    let of = c.in_ok-tree.ensures.tree in
    (of.0, of.1, ap (λ t. record { tree = t; inverted = c.args.options.now.invert }) of.2)

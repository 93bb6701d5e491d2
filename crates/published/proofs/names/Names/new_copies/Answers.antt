use Rattle.std.proofs.Common.{take}
use Rattle.published.proofs.CopyNames.{copies-step}
use Rattle.published.proofs.names.Names.new_copies.Goals as goal

pub loop-at-preserved : goal.loop-at-preserved
loop-at-preserved c =
    copies-step c.args.self.now c.args.from.now c.args.to.now c.args.names.now c.loop-at.at c.index-names-at.result c.loop-at.copies.items
    c.add_copy.new.copies.items c.loop-at-test.true c.index-names-at.is c.loop-at.invariant c.in_ok-add_copy.ensures

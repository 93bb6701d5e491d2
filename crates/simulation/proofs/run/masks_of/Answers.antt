use Rattle.std.proofs.Common.{arith}
use Rattle.simulation.proofs.Masks as masks
use Rattle.simulation.proofs.run.masks_of.Goals as goal

pub loop-byte-preserved : goal.loop-byte-preserved
loop-byte-preserved c =
    masks.masks_more c.loop-byte.masks.items c.loop-byte.byte c.marks.result c.args.copies c.args.row.now (omega arith) c.loop-byte.invariant c.marks.ensures

use Rattle.std.proofs.Common.{refl}
use Rattle.simulation.proofs.Sequences as sequences
use Rattle.simulation.proofs.sequence.then_place.Goals as goal

pub returns : goal.returns
returns c =
    sequences.then_place c.args.sequence c.in_ok-longer.longer _ c.args.place c.args.copies refl c.in_ok-push.ensures.items c.in_ok-longer.ensures.same
    c.in_ok-longer.ensures.before c.in_ok-longer.ensures.room

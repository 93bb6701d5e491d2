use Rattle.matcher.proofs.Shifting.{moves_swept}
use Rattle.matcher.proofs.positions.PositionsPositionSet.sweep.Goals as goal

pub returns : goal.returns
returns g c =
    rw (← c.self.view_is)
    (moves_swept c.args.line.now c.args.members.now c.self.inside.words c.sweep-self-inside.new.words c.sweep-self-inside.ensures.moved)

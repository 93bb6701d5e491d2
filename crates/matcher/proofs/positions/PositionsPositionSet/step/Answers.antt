use Rattle.matcher.proofs.Shifting.{moves_shifted}
use Rattle.matcher.proofs.Joining.{trimmed}
use Rattle.matcher.proofs.positions.PositionsPositionSet.step.Goals as goal

pub invariant_of-self : goal.invariant_of-self
invariant_of-self g c =
    trimmed c.shift-self-inside.new.words c.self.inside.first c.shift-self-inside.result c.first_held-self-inside.result
    c.shift-self-inside.ensures.bounded c.first_held-self-inside.ensures.between c.first_held-self-inside.ensures.none

pub returns : goal.returns
returns g c =
    rw (← c.self.view_is)
    (moves_shifted c.args.line.now c.args.members.now c.self.inside.words c.shift-self-inside.new.words
    c.shift-self-inside.ensures.moved)

use Rattle.std.proofs.Common.{◌<◌, arith}
use Rattle.matcher.proofs.Joining.{taken_window}
use Rattle.matcher.proofs.positions.PositionsPositionSet.take_window.Goals as goal

pub returns : goal.returns
returns g c =
    let inside : c.first_held-i.result < g.row.N =
    omega (arith, c.first_held-i.ensures.between.1, c.if-i-self.false, c.self.invariant.inside) in
    rw (← c.self.view_is)
    (taken_window c.self.inside.words c.here.inside.words c.first_held-i.result (λ j. rw c.here.view_is (c.clear.ensures.empty j))
    (omega (arith, inside, c.self.invariant.whole)) (omega (arith, inside, c.here.invariant.whole)))

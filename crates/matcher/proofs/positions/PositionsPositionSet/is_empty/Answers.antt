use Rattle.std.proofs.Common.{rules}
use Rattle.matcher.proofs.Joining.{some_position, none_in_bounds, none_yet, none_still}
use Rattle.matcher.proofs.positions.PositionsPositionSet.is_empty.Goals as goal

pub loop-i-init : goal.loop-i-init
loop-i-init g c = none_yet c.self.inside.words c.self.inside.first c.self.inside.end c.self.invariant

pub loop-i-preserved : goal.loop-i-preserved
loop-i-preserved g c = none_still c.self.inside.words c.loop-i.i c.loop-i.invariant c.if-self-i-ne0.false

pub returns-then-self-i-ne0 : goal.returns-then-self-i-ne0
returns-then-self-i-ne0 g c = rw (← c.self.view_is) (some_position c.self.inside.words c.loop-i.i c.if-self-i-ne0.true (search rules))

pub returns : goal.returns
returns g c = rw (← c.self.view_is) (none_in_bounds c.self.invariant c.loop-i.i c.loop-i-test.false c.loop-i.invariant)

use Rattle.std.proofs.Common.{arith}
use Rattle.matcher.proofs.Joining.{copied_first, copied_more, copied_all}
use Rattle.matcher.proofs.positions.PositionsPositionSet.copy.Goals as goal

pub loop-i-init : goal.loop-i-init
loop-i-init g c = copied_first _ _ _ _ c.self.invariant.whole (λ i. rw c.self.view_is (c.clear.ensures.empty i)) c.other.invariant

pub loop-i-preserved : goal.loop-i-preserved
loop-i-preserved g c = copied_more _ _ _ c.loop-i.invariant (omega (arith, c.other.invariant.inside))

pub invariant_of-self : goal.invariant_of-self
invariant_of-self g c = rw (copied_all _ _ _ _ _ c.loop-i.invariant c.other.invariant c.loop-i-test.false) c.other.invariant

pub returns : goal.returns
returns g c = rw (← c.other.view_is) (copied_all _ _ _ _ _ c.loop-i.invariant c.other.invariant c.loop-i-test.false)

use Rattle.matcher.proofs.Joining.{none_held, empty_bounded, cleared_more, cleared_all}
use Rattle.matcher.proofs.positions.PositionsPositionSet.clear.Goals as goal

pub loop-i-preserved : goal.loop-i-preserved
loop-i-preserved g c = cleared_more _ _ _ c.loop-i.invariant c.loop-i-test.true

pub invariant_of-self : goal.invariant_of-self
invariant_of-self g c =
    empty_bounded c.loop-i.self-inside.words c.loop-i.invariant.few c.loop-i.invariant.whole
    (cleared_all c.loop-i.self-inside.words _ _ c.loop-i.invariant c.loop-i-test.false)

pub returns-clause-none : goal.returns-clause-none
returns-clause-none g c = none_held c.loop-i.self-inside.words (cleared_all c.loop-i.self-inside.words _ _ c.loop-i.invariant c.loop-i-test.false)

pub returns-clause-empty : goal.returns-clause-empty
returns-clause-empty g c = cleared_all c.loop-i.self-inside.words _ _ c.loop-i.invariant c.loop-i-test.false

use Rattle.matcher.proofs.Joining.{none_held, in_room, empty_words, empty_bounded}
use Rattle.matcher.proofs.positions.PositionsPositionSet.none.Goals as goal

pub invariant_of-result : goal.invariant_of-result
invariant_of-result g c =
    empty_bounded c.every.result (in_room 0 g.row.N c.requires).0 c.every.ensures.whole
    (empty_words c.every.result c.every.ensures.whole c.every.ensures.same)

pub returns : goal.returns
returns g c = none_held c.every.result (empty_words c.every.result c.every.ensures.whole c.every.ensures.same)

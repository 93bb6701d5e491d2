use Rattle.std.proofs.Common.{◌/◌, arith}
use Rattle.matcher.proofs.Joining.{in_room, kept, kept_bounded}
use Rattle.matcher.proofs.positions.PositionsPositionSet.keep.Goals as goal

pub invariant_of-self : goal.invariant_of-self
invariant_of-self g c =
    kept_bounded c.self-2.inside.words (c.args.position / 64) c.only_bit-stays.result c.self.invariant.few
    (λ i. rw c.self-2.view_is (c.clear.ensures.empty i)) c.self-2.invariant.whole
    (let room = in_room c.args.position g.row.N c.requires in omega (arith, room.1))

pub returns : goal.returns
returns g c =
    λ k.
    rw (← c.self.view_is)
    (kept c.self-2.inside.words c.self.inside.words c.args.position c.only_bit-stays.result
    (λ i. rw c.self-2.view_is (c.clear.ensures.empty i))
    (let room = in_room c.args.position g.row.N c.requires in omega (arith, room.1, c.self-2.invariant.whole))
    c.only_bit-stays.ensures k)

use Rattle.std.proofs.Common.{◌≡◌, ◌/◌, refl, subst, arith}
use Rattle.matcher.proofs.Joining.{in_room, empty_words, IsFilled, filled_first, filled_more, filled_all, filled_bounded}
use Rattle.matcher.proofs.positions.PositionsPositionSet.through.Goals as goal

pub loop-i-init : goal.loop-i-init
loop-i-init g c =
    filled_first c.every-words.result c.every-words.ensures.whole
    (empty_words c.every-words.result c.every-words.ensures.whole c.every-words.ensures.same)

pub loop-i-preserved : goal.loop-i-preserved
loop-i-preserved g c =
    let room = in_room c.args.last g.row.N c.requires in
    filled_more c.loop-i.words c.loop-i.i c.through_bit.result c.loop-i.invariant (omega (arith, room.1)) c.through_bit.ensures

pub invariant_of-result : goal.invariant_of-result
invariant_of-result g c =
    let room = in_room c.args.last g.row.N c.requires in
    let at : c.loop-i.i ≡ c.args.last / 64 = omega arith in
    filled_bounded c.loop-i.words (c.args.last / 64) c.through_bit-2.result room.0
    (subst (λ n. IsFilled g.row.N c.loop-i.words n) at c.loop-i.invariant) (omega (arith, room.1))

pub returns : goal.returns
returns g c =
    let room = in_room c.args.last g.row.N c.requires in
    let at : c.loop-i.i ≡ c.args.last / 64 = omega arith in
    filled_all c.loop-i.words c.args.last (c.args.last / 64) c.through_bit-2.result
    (subst (λ n. IsFilled g.row.N c.loop-i.words n) at c.loop-i.invariant) refl (omega (arith, room.1)) c.through_bit-2.ensures

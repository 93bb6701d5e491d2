use Rattle.std.proofs.Common.{◌≡◌, ◌-◌, ◌+◌, ◌%◌, ◌≤◌, length, refl, ◌∙◌, arith}
use Rattle.std.specs.Prelude.{insert}
use Rattle.posting.proofs.Inserts.{value_on_ok, inserting_begins, inserting_room, inserting_more, inserting_ends}
use Rattle.posting.proofs.gaps.insert_gap.Goals as goal

pub loop-rest-init : goal.loop-rest-init
loop-rest-init c =
    inserting_begins c.args.bytes.now.items c.args.bytes.now.capacity c.args.at c.args.gap c.ranges.gap.fits c.requires.within c.requires.room

pub loop-rest-preserved : goal.loop-rest-preserved
loop-rest-preserved c =
    let place = c.len-in-loop-rest.result - (c.len.result - c.args.at) in
    let place_is : place ≡ length c.loop-rest.bytes.items - (length c.args.bytes.now.items - c.args.at) = omega (arith, c.len-in-loop-rest.ensures.value, c.len.ensures.value) in
    let room : length c.loop-rest.bytes.items + 1 ≤ c.loop-rest.bytes.capacity =
    inserting_room c.args.bytes.now.items c.args.bytes.now.capacity c.args.at c.args.gap c.loop-rest.bytes.items c.loop-rest.bytes.capacity
    c.loop-rest.rest place c.loop-rest.invariant place_is in
    let items : c.insert-has_room.new.self.items ≡ insert c.loop-rest.bytes.items place (c.loop-rest.rest % 128 + 128) =
    value_on_ok c.insert-has_room.result c.insert-has_room.ensures.ok (c.insert-has_room.ensures.succeeds room) in
    rw items
    (inserting_more c.args.bytes.now.items c.args.bytes.now.capacity c.args.at c.args.gap c.loop-rest.bytes.items c.loop-rest.bytes.capacity
    c.loop-rest.rest place c.loop-rest.invariant place_is _ _ c.loop-rest-test.true refl (c.insert-has_room.ensures.had_room room))

pub returns-clause-items : goal.returns-clause-items
returns-clause-items c =
    let place = c.len-2.result - (c.len.result - c.args.at) in
    let place_is : place ≡ length c.loop-rest.bytes.items - (length c.args.bytes.now.items - c.args.at) = omega (arith, c.len-2.ensures.value, c.len.ensures.value) in
    let room : length c.loop-rest.bytes.items + 1 ≤ c.loop-rest.bytes.capacity =
    inserting_room c.args.bytes.now.items c.args.bytes.now.capacity c.args.at c.args.gap c.loop-rest.bytes.items c.loop-rest.bytes.capacity
    c.loop-rest.rest place c.loop-rest.invariant place_is in
    value_on_ok c.insert-has_room-2.result c.insert-has_room-2.ensures.ok (c.insert-has_room-2.ensures.succeeds room)
    ∙ inserting_ends c.args.bytes.now.items c.args.bytes.now.capacity c.args.at c.args.gap c.loop-rest.bytes.items c.loop-rest.bytes.capacity
    c.loop-rest.rest place c.loop-rest.invariant place_is c.loop-rest-test.false

use Rattle.std.proofs.Common.{set, arith}
use Rattle.std.proofs.lemmas.Result.{on_ok_weaker}
use Rattle.posting.specs.ListValue.{HasRoom}
use Rattle.posting.specs.Private.Pages.{set_at, Widens}
use Rattle.posting.proofs.Tables.{set_of-table}
use Rattle.posting.proofs.Widening.{members-widened, limits-widened, widens_one, widens_written, listed_has_room, set_written, limit_with_room}
use Rattle.posting.proofs.part.Part.make_room.Goals as goal

pub returns-in-Free-clause-members : goal.returns-in-Free-clause-members
returns-in-Free-clause-members c =
    rw (← c.self.view_is)
    (members-widened c.self.inside.pages c.make_first.new.pages c.self.inside.lists.items c.make_first.new.lists.items c.make_first.ensures.wider)

pub returns-in-Free-clause-room : goal.returns-in-Free-clause-room
returns-in-Free-clause-room c =
    rw (← c.self.view_is)
    (limits-widened c.self.inside.pages c.make_first.new.pages c.self.inside.lists.items c.make_first.new.lists.items c.make_first.ensures.wider)

pub returns-in-Free-clause-ok : goal.returns-in-Free-clause-ok
returns-in-Free-clause-ok c =
    rw (set_of-table (set_at c.make_first.new.pages c.make_first.new.lists.items) c.args.trigram c.in-Free.ensures.bound) c.make_first.ensures.ok

wider_one : (c : goal.After-add_list) → Widens (set_at c.self.inside.pages c.self.inside.lists.items) (set_at c.add_list.new.pages c.add_list.new.lists.items)
wider_one c =
    widens_one c.self.inside.pages c.add_list.new.pages c.self.inside.lists.items c.add_list.new.lists.items c.args.trigram c.in-One.held
    c.one-list.result c.add_list.result c.add_list.ensures.at c.add_list.ensures.others c.add_list.ensures.err c.in-One.ensures.value
    c.one-list.ensures.members c.one-list.ensures.room

pub returns-in-One-clause-members : goal.returns-in-One-clause-members
returns-in-One-clause-members c =
    rw (← c.self.view_is)
    (members-widened c.self.inside.pages c.add_list.new.pages c.self.inside.lists.items c.add_list.new.lists.items (wider_one c))

pub returns-in-One-clause-room : goal.returns-in-One-clause-room
returns-in-One-clause-room c =
    rw (← c.self.view_is)
    (limits-widened c.self.inside.pages c.add_list.new.pages c.self.inside.lists.items c.add_list.new.lists.items (wider_one c))

pub returns-in-One-clause-ok : goal.returns-in-One-clause-ok
returns-in-One-clause-ok c =
    rw (set_of-table (set_at c.add_list.new.pages c.add_list.new.lists.items) c.args.trigram c.in-One.ensures.bound)
    (listed_has_room (set_at c.add_list.new.pages c.add_list.new.lists.items) c.args.trigram c.args.number c.one-list.result c.add_list.result
    c.add_list.ensures.at c.one-list.ensures.room (omega arith))

wider_list : (c : goal.After-self-1)
    → Widens (set_at c.self.inside.pages c.self.inside.lists.items)
    (set_at c.self.inside.pages
    (set c.self.inside.lists.items c.in-Listed.place (record { trigram = c.index_mut-owned.result.now.trigram; list = c.room_for.new.self })))
wider_list c =
    widens_written c.self.inside.pages c.self.inside.lists.items c.args.trigram c.in-Listed.place c.index_mut-owned.result.now
    (record { trigram = c.index_mut-owned.result.now.trigram; list = c.room_for.new.self }) c.self.invariant c.in-Listed.ensures.value
    c.index_mut-owned.ensures.value c.room_for.ensures.members c.room_for.ensures.room

pub returns-in-Listed-clause-members : goal.returns-in-Listed-clause-members
returns-in-Listed-clause-members c =
    rw (← c.self.view_is)
    (members-widened c.self.inside.pages c.self.inside.pages c.self.inside.lists.items
    (set c.self.inside.lists.items c.in-Listed.place (record { trigram = c.index_mut-owned.result.now.trigram; list = c.room_for.new.self }))
    (wider_list c))

pub returns-in-Listed-clause-room : goal.returns-in-Listed-clause-room
returns-in-Listed-clause-room c =
    rw (← c.self.view_is)
    (limits-widened c.self.inside.pages c.self.inside.pages c.self.inside.lists.items
    (set c.self.inside.lists.items c.in-Listed.place (record { trigram = c.index_mut-owned.result.now.trigram; list = c.room_for.new.self }))
    (wider_list c))

pub returns-in-Listed-clause-ok : goal.returns-in-Listed-clause-ok
returns-in-Listed-clause-ok c =
    let written =
    set_written c.self.inside.pages c.self.inside.lists.items c.args.trigram c.in-Listed.place
    (record { trigram = c.index_mut-owned.result.now.trigram; list = c.room_for.new.self }) c.self.invariant c.in-Listed.ensures.value
    c.in-Listed.ensures.bound in
    rw written
    (on_ok_weaker c.room_for.result
    (λ (room : HasRoom c.room_for.new.self). (let most = limit_with_room c.room_for.new.self room in omega (arith, most))) c.room_for.ensures.ok)

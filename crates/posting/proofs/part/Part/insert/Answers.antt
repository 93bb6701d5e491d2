use Rattle.std.proofs.Common.{◌||◌, ◌==◌, sym, ap, ◌∙◌}
use Rattle.std.proofs.Math.Bool.{or-false}
use Rattle.posting.specs.ListValue.{has}
use Rattle.posting.specs.declared.pages.Slot.TheVariants.{Free, One}
use Rattle.posting.specs.Private.Pages.{slot_of}
use Rattle.posting.proofs.Places.{written_here}
use Rattle.posting.proofs.Widening.{set_here, set_there, set_written, list_other, slot_other, room_from_limit, free_here}
use Rattle.posting.proofs.part.Part.insert.Goals as goal

pub insert-requires-clause-absent : goal.insert-requires-clause-absent
insert-requires-clause-absent c =
    let was =
    set_there c.self.inside.pages c.self.inside.lists.items c.args.self.now c.args.trigram c.in-Listed.place c.index_mut-owned.result.now
    c.self.view_is c.self.invariant c.in-Listed.ensures.value c.in-Listed.ensures.bound c.index_mut-owned.ensures.value in
    rw was at c.requires.absent

pub insert-requires-clause-room : goal.insert-requires-clause-room
insert-requires-clause-room c =
    let was =
    set_there c.self.inside.pages c.self.inside.lists.items c.args.self.now c.args.trigram c.in-Listed.place c.index_mut-owned.result.now
    c.self.view_is c.self.invariant c.in-Listed.ensures.value c.in-Listed.ensures.bound c.index_mut-owned.ensures.value in
    room_from_limit c.index_mut-owned.result.now.list c.args.number (rw was at c.requires.room)

pub set_slot-requires-clause-page : goal.set_slot-requires-clause-page
set_slot-requires-clause-page c =
    (free_here c.self.inside.pages c.self.inside.lists.items c.args.self.now c.args.trigram c.args.number c.slot.result c.self.view_is
    c.slot.ensures.value c.slot.ensures.bound c.in_default.not-Listed c.requires.room).1

pub set_slot-requires-clause-fits : goal.set_slot-requires-clause-fits
set_slot-requires-clause-fits c =
    (free_here c.self.inside.pages c.self.inside.lists.items c.args.self.now c.args.trigram c.args.number c.slot.result c.self.view_is
    c.slot.ensures.value c.slot.ensures.bound c.in_default.not-Listed c.requires.room).2

pub returns-in-Listed-clause-at : goal.returns-in-Listed-clause-at
returns-in-Listed-clause-at c = λ n.
    let was =
    set_there c.self.inside.pages c.self.inside.lists.items c.args.self.now c.args.trigram c.in-Listed.place c.index_mut-owned.result.now
    c.self.view_is c.self.invariant c.in-Listed.ensures.value c.in-Listed.ensures.bound c.index_mut-owned.ensures.value in
    ap (λ s. has s.members n)
    (set_written c.self.inside.pages c.self.inside.lists.items c.args.trigram c.in-Listed.place
    (record { trigram = c.index_mut-owned.result.now.trigram; list = c.insert.new.self }) c.self.invariant c.in-Listed.ensures.value
    c.in-Listed.ensures.bound)
    ∙ c.insert.ensures n ∙ ap (λ s. has s.members n || c.args.number == n) (sym was)

pub returns-in-Listed-clause-others : goal.returns-in-Listed-clause-others
returns-in-Listed-clause-others c = λ t other.
    rw (← c.self.view_is)
    (list_other c.self.inside.pages c.self.inside.lists.items c.args.trigram c.in-Listed.place
    (record { trigram = c.index_mut-owned.result.now.trigram; list = c.insert.new.self }) c.self.invariant c.in-Listed.ensures.value t other)

pub returns-in_default-clause-at : goal.returns-in_default-clause-at
returns-in_default-clause-at c = λ n.
    let free =
    free_here c.self.inside.pages c.self.inside.lists.items c.args.self.now c.args.trigram c.args.number c.slot.result c.self.view_is
    c.slot.ensures.value c.slot.ensures.bound c.in_default.not-Listed c.requires.room in
    let was = rw c.self.view_is at (set_here c.self.inside.pages c.self.inside.lists.items c.args.trigram Free free.0 c.slot.ensures.bound) in
    let now =
    set_here c.set_slot.new.self c.self.inside.lists.items c.args.trigram (One c.args.number)
    (sym (written_here (slot_of c.self.inside.pages) (slot_of c.set_slot.new.self) c.args.trigram (One c.args.number) c.set_slot.ensures.slots))
    c.slot.ensures.bound in
    rw (now, was) (or-false (c.args.number == n))

pub returns-in_default-clause-others : goal.returns-in_default-clause-others
returns-in_default-clause-others c = λ t other.
    rw (← c.self.view_is)
    (slot_other c.self.inside.pages c.set_slot.new.self c.self.inside.lists.items c.args.trigram (One c.args.number) c.set_slot.ensures.slots
    c.set_slot.ensures.limits t other)

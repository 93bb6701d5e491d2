use Rattle.std.proofs.Common.{◌<◌, ◌≤◌, ◌∙◌, length, ap, arith}
use Rattle.std.proofs.lemmas.Bool.Decides.{nat_tests}
use Rattle.std.proofs.lemmas.List.{get_or_read}
use Rattle.posting.specs.Private.Pages.{slot_of, no_list}
use Rattle.posting.proofs.Places.{Dropped, swapped_out, dropped_last, dropped_moved, IsSound-dropped, sets-dropped, set_at-kept}
use Rattle.posting.proofs.owned.drop_list.Goals as goal

moved : (c : goal.After-set_slot-in-Some)
    → Dropped (slot_of c.args.pages.now) (slot_of c.set_slot-in-Some.new.self) c.args.lists.now.items c.swap_remove.new.self.items c.args.trigram c.args.place
    c.args.slot
moved c =
    let swapped =
    swapped_out c.args.lists.now.items c.swap_remove.new.self.items c.args.place _ _ c.args.lists.now.ok.0 c.swap_remove.new.self.ok.0
    c.swap_remove.ensures.len c.swap_remove.ensures.by_index in
    let found = rw c.deref.ensures.value at c.in-Some.ensures.lookup in
    let before : c.args.place < length c.swap_remove.new.self.items = grind (arith, nat_tests, found.0) in
    let owner = ap (λ o. o.trigram) (get_or_read c.swap_remove.new.self.items c.args.place c.in-Some.moved.now before found.1 no_list) in
    dropped_moved (slot_of c.args.pages.now) (slot_of c.set_slot.new.self) c.args.lists.now.items c.swap_remove.new.self.items c.args.trigram
    c.args.place c.args.slot c.requires.sound c.requires.listed swapped c.requires.unlisted c.set_slot.ensures.slots
    (slot_of c.set_slot-in-Some.new.self) c.in-Some.moved.now.trigram before owner c.set_slot-in-Some.ensures.slots

last : (c : goal.In_default)
    → Dropped (slot_of c.args.pages.now) (slot_of c.set_slot.new.self) c.args.lists.now.items c.swap_remove.new.self.items c.args.trigram c.args.place
    c.args.slot
last c =
    let swapped =
    swapped_out c.args.lists.now.items c.swap_remove.new.self.items c.args.place _ _ c.args.lists.now.ok.0 c.swap_remove.new.self.ok.0
    c.swap_remove.ensures.len c.swap_remove.ensures.by_index in
    let found = rw c.deref.ensures.value at c.in_default.ensures.lookup in
    let end : length c.swap_remove.new.self.items ≤ c.args.place = grind (arith, nat_tests, found.0) in
    dropped_last (slot_of c.args.pages.now) (slot_of c.set_slot.new.self) c.args.lists.now.items c.swap_remove.new.self.items c.args.trigram
    c.args.place c.args.slot c.requires.sound c.requires.listed swapped c.requires.unlisted c.set_slot.ensures.slots end

pub returns-in-Some-clause-sound : goal.returns-in-Some-clause-sound
returns-in-Some-clause-sound c =
    IsSound-dropped (slot_of c.args.pages.now) (slot_of c.set_slot-in-Some.new.self) c.args.lists.now.items c.swap_remove.new.self.items
    c.args.trigram c.args.place c.args.slot c.requires.sound (moved c)

pub returns-in-Some-clause-at : goal.returns-in-Some-clause-at
returns-in-Some-clause-at c = (moved c).gone

pub returns-in-Some-clause-others : goal.returns-in-Some-clause-others
returns-in-Some-clause-others c = λ t other.
    set_at-kept c.args.pages.now c.set_slot-in-Some.new.self c.args.lists.now.items c.swap_remove.new.self.items t
    (c.set_slot-in-Some.ensures.limits t ∙ c.set_slot.ensures.limits t)
    (λ limit.
    sets-dropped (slot_of c.args.pages.now) (slot_of c.set_slot-in-Some.new.self) c.args.lists.now.items c.swap_remove.new.self.items
    c.args.trigram c.args.place c.args.slot c.requires.sound (moved c) limit t other)

pub returns-in_default-clause-sound : goal.returns-in_default-clause-sound
returns-in_default-clause-sound c =
    IsSound-dropped (slot_of c.args.pages.now) (slot_of c.set_slot.new.self) c.args.lists.now.items c.swap_remove.new.self.items
    c.args.trigram c.args.place c.args.slot c.requires.sound (last c)

pub returns-in_default-clause-others : goal.returns-in_default-clause-others
returns-in_default-clause-others c = λ t other.
    set_at-kept c.args.pages.now c.set_slot.new.self c.args.lists.now.items c.swap_remove.new.self.items t (c.set_slot.ensures.limits t)
    (λ limit.
    sets-dropped (slot_of c.args.pages.now) (slot_of c.set_slot.new.self) c.args.lists.now.items c.swap_remove.new.self.items
    c.args.trigram c.args.place c.args.slot c.requires.sound (last c) limit t other)

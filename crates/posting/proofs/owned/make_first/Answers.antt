use Rattle.std.proofs.Common.{◌≡◌, ◌∙◌, sym, arith}
use Rattle.posting.specs.declared.pages.Slot.TheVariants.{Free, Listed}
use Rattle.posting.specs.Private.Pages.{slot_of, set_at}
use Rattle.posting.proofs.Places.{IsSound-same}
use Rattle.posting.proofs.Widening.{widens_pages, widens_both, widens_free, free_has_room, listed_has_room}
use Rattle.posting.proofs.owned.make_first.Goals as goal

pub returns-in_err-make_page-clause-sound : goal.returns-in_err-make_page-clause-sound
returns-in_err-make_page-clause-sound c =
    IsSound-same (slot_of c.args.pages.now) (slot_of c.make_page.new.self) c.args.lists.now.items c.in_err-make_page.ensures.slots c.requires.sound

pub returns-in_err-make_page-clause-wider : goal.returns-in_err-make_page-clause-wider
returns-in_err-make_page-clause-wider c =
    widens_pages c.args.pages.now c.make_page.new.self c.args.lists.now.items c.in_err-make_page.ensures.slots c.in_err-make_page.ensures.limits

pub returns-then-number-lt-SLOT_LIMIT-clause-sound : goal.returns-then-number-lt-SLOT_LIMIT-clause-sound
returns-then-number-lt-SLOT_LIMIT-clause-sound c =
    IsSound-same (slot_of c.args.pages.now) (slot_of c.make_page.new.self) c.args.lists.now.items c.in_ok-make_page.ensures.slots c.requires.sound

pub returns-then-number-lt-SLOT_LIMIT-clause-wider : goal.returns-then-number-lt-SLOT_LIMIT-clause-wider
returns-then-number-lt-SLOT_LIMIT-clause-wider c =
    widens_pages c.args.pages.now c.make_page.new.self c.args.lists.now.items c.in_ok-make_page.ensures.slots c.in_ok-make_page.ensures.limits

pub returns-then-number-lt-SLOT_LIMIT-clause-ok : goal.returns-then-number-lt-SLOT_LIMIT-clause-ok
returns-then-number-lt-SLOT_LIMIT-clause-ok c =
    free_has_room c.make_page.new.self c.args.lists.now.items c.args.trigram c.args.number
    (sym (c.in_ok-make_page.ensures.slots c.args.trigram ∙ c.requires.free)) c.in_ok-make_page.ensures.ok c.if-number-lt-SLOT_LIMIT.true

pub returns-in_err-room_for-clause-sound : goal.returns-in_err-room_for-clause-sound
returns-in_err-room_for-clause-sound c =
    IsSound-same (slot_of c.args.pages.now) (slot_of c.make_page.new.self) c.args.lists.now.items c.in_ok-make_page.ensures.slots c.requires.sound

pub returns-in_err-room_for-clause-wider : goal.returns-in_err-room_for-clause-wider
returns-in_err-room_for-clause-wider c =
    widens_pages c.args.pages.now c.make_page.new.self c.args.lists.now.items c.in_ok-make_page.ensures.slots c.in_ok-make_page.ensures.limits

pub add_list-requires-clause-sound : goal.add_list-requires-clause-sound
add_list-requires-clause-sound c =
    IsSound-same (slot_of c.args.pages.now) (slot_of c.make_page.new.self) c.args.lists.now.items c.in_ok-make_page.ensures.slots c.requires.sound

pub add_list-requires-clause-unlisted : goal.add_list-requires-clause-unlisted
add_list-requires-clause-unlisted c = λ place e.
    let free : Free ≡ Listed place = sym (c.in_ok-make_page.ensures.slots c.args.trigram ∙ c.requires.free) ∙ e in
    cc

pub returns-clause-wider : goal.returns-clause-wider
returns-clause-wider c =
    widens_both (set_at c.args.pages.now c.args.lists.now.items) (set_at c.make_page.new.self c.args.lists.now.items)
    (set_at c.add_list.new.pages c.add_list.new.lists.items)
    (widens_pages c.args.pages.now c.make_page.new.self c.args.lists.now.items c.in_ok-make_page.ensures.slots c.in_ok-make_page.ensures.limits)
    (widens_free c.make_page.new.self c.add_list.new.pages c.args.lists.now.items c.add_list.new.lists.items c.args.trigram c.room_for.new.self
    c.add_list.result c.add_list.ensures.at c.add_list.ensures.others c.add_list.ensures.err
    (sym (c.in_ok-make_page.ensures.slots c.args.trigram ∙ c.requires.free)) (c.in_ok-room_for.ensures.members ∙ c.new-list.ensures)
    c.in_ok-room_for.ensures.ok)

pub returns-clause-ok : goal.returns-clause-ok
returns-clause-ok c =
    listed_has_room (set_at c.add_list.new.pages c.add_list.new.lists.items) c.args.trigram c.args.number c.room_for.new.self c.add_list.result
    c.add_list.ensures.at c.in_ok-room_for.ensures.ok (omega arith)

use Rattle.std.proofs.Common.{◌≡◌, ◌∷◌, [], ◌++◌, length, refl, ap, arith}
use Rattle.posting.specs.declared.pages.Slot.TheVariants.{Listed}
use Rattle.posting.specs.Private.Pages.{slot_of, free_limit}
use Rattle.posting.proofs.Tables.{trigram_count-lt}
use Rattle.posting.proofs.Places.{IsWritten, length-lists, IsSound-listed, set-listed, sets-listed, set_at-is, set_at-kept}
use Rattle.posting.proofs.owned.add_list.Goals as goal

pub set_slot-requires-clause-fits : goal.set_slot-requires-clause-fits
set_slot-requires-clause-fits c =
    let most = length-lists (slot_of c.args.pages.now) c.args.lists.now.items c.requires.sound in
    omega (arith, c.len-place.ensures, c.reserve.new.items.ok.0, ap length c.in_ok-reserve.ensures, most, trigram_count-lt)

written : (c : goal.After-set_slot)
    → IsWritten (slot_of c.args.pages.now) (slot_of c.set_slot.new.self) c.args.trigram (Listed (length c.args.lists.now.items))
written c = λ t.
    let place : c.len-place.result ≡ length c.args.lists.now.items =
    omega (arith, c.len-place.ensures, c.reserve.new.items.ok.0, ap length c.in_ok-reserve.ensures) in
    rw (← place) (c.set_slot.ensures.slots t)

pub returns-clause-sound : goal.returns-clause-sound
returns-clause-sound c =
    rw (c.in_ok-push.ensures.items, c.in_ok-reserve.ensures)
    (IsSound-listed (slot_of c.args.pages.now) (slot_of c.set_slot.new.self) c.args.lists.now.items c.args.trigram
    (record { trigram = c.args.trigram; list = c.args.list }) c.requires.sound c.set_slot.ensures.bound refl c.requires.unlisted (written c))

pub returns-clause-at : goal.returns-clause-at
returns-clause-at c =
    rw (c.in_ok-push.ensures.items, c.in_ok-reserve.ensures, set_at-is)
    (set-listed (slot_of c.args.pages.now) (slot_of c.set_slot.new.self) c.args.lists.now.items c.args.trigram
    (record { trigram = c.args.trigram; list = c.args.list }) c.requires.sound c.set_slot.ensures.bound refl c.requires.unlisted (written c)
    (free_limit c.set_slot.new.self c.args.trigram))

pub returns-clause-others : goal.returns-clause-others
returns-clause-others c = λ t other.
    rw (c.in_ok-push.ensures.items, c.in_ok-reserve.ensures)
    (set_at-kept c.args.pages.now c.set_slot.new.self c.args.lists.now.items
    (c.args.lists.now.items ++ (record { trigram = c.args.trigram; list = c.args.list }) ∷ []) t (c.set_slot.ensures.limits t)
    (λ limit.
    sets-listed (slot_of c.args.pages.now) (slot_of c.set_slot.new.self) c.args.lists.now.items c.args.trigram
    (record { trigram = c.args.trigram; list = c.args.list }) c.requires.sound c.set_slot.ensures.bound refl c.requires.unlisted (written c)
    limit t other))

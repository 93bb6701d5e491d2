use Rattle.std.proofs.Common.{◌≡◌, ◌∙◌, Some, sym, ap, arith}
use Rattle.posting.specs.Private.Pages.{place_of}
use Rattle.posting.proofs.PageLemmas.{paged, place_inside, slot_of-written, limits-written}
use Rattle.posting.proofs.pages.Pages.set_slot.Goals as goal

pub index-requires : goal.index-requires
index-requires c =
    let there : place_of (paged c.self.inside.directory.items c.self.inside.slots.items) c.args.trigram ≡ Some c.in-Some.place =
    ap (λ p. place_of p c.args.trigram) c.self.view_is ∙ sym c.place.ensures.place ∙ c.in-Some.is in
    omega (arith, place_inside (paged c.self.inside.directory.items c.self.inside.slots.items) c.args.trigram c.in-Some.place c.self.invariant there, c.self.inside.slots.ok.0)

pub index_mut-requires : goal.index_mut-requires
index_mut-requires c =
    let there : place_of (paged c.self.inside.directory.items c.self.inside.slots.items) c.args.trigram ≡ Some c.in-Some.place =
    ap (λ p. place_of p c.args.trigram) c.self.view_is ∙ sym c.place.ensures.place ∙ c.in-Some.is in
    omega (arith, place_inside (paged c.self.inside.directory.items c.self.inside.slots.items) c.args.trigram c.in-Some.place c.self.invariant there, c.self.inside.slots.ok.0)

pub returns-in-Some-clause-slots : goal.returns-in-Some-clause-slots
returns-in-Some-clause-slots c = λ t.
    let there : place_of (paged c.self.inside.directory.items c.self.inside.slots.items) c.args.trigram ≡ Some c.in-Some.place =
    ap (λ p. place_of p c.args.trigram) c.self.view_is ∙ sym c.place.ensures.place ∙ c.in-Some.is in
    rw (← c.self.view_is, ← c.encode-code.ensures)
    (slot_of-written (paged c.self.inside.directory.items c.self.inside.slots.items) c.args.trigram c.in-Some.place c.encode-code.result t
    c.self.invariant there)

pub returns-in-Some-clause-limits : goal.returns-in-Some-clause-limits
returns-in-Some-clause-limits c = λ t.
    rw (← c.self.view_is)
    (limits-written (paged c.self.inside.directory.items c.self.inside.slots.items) c.in-Some.place c.encode-code.result t)

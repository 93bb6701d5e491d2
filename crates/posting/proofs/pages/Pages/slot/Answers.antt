use Rattle.std.proofs.Common.{◌≡◌, ◌∙◌, Some, sym, ap, arith}
use Rattle.std.proofs.lemmas.List.{get_or_read}
use Rattle.posting.specs.Private.Pages.{place_of, code_at, slot_of_code}
use Rattle.posting.proofs.PageLemmas.{paged, place_inside}
use Rattle.posting.proofs.pages.Pages.slot.Goals as goal

pub index-requires : goal.index-requires
index-requires c =
    let there : place_of (paged c.self.inside.directory.items c.self.inside.slots.items) c.args.trigram ≡ Some c.in-Some.place =
    ap (λ p. place_of p c.args.trigram) c.self.view_is ∙ sym c.place.ensures.place ∙ c.in-Some.is in
    omega (arith, place_inside (paged c.self.inside.directory.items c.self.inside.slots.items) c.args.trigram c.in-Some.place c.self.invariant there, c.self.inside.slots.ok.0)

pub returns-in-Some-clause-value : goal.returns-in-Some-clause-value
returns-in-Some-clause-value c =
    let there : place_of (paged c.self.inside.directory.items c.self.inside.slots.items) c.args.trigram ≡ Some c.in-Some.place =
    ap (λ p. place_of p c.args.trigram) c.self.view_is ∙ sym c.place.ensures.place ∙ c.in-Some.is in
    let inside = place_inside (paged c.self.inside.directory.items c.self.inside.slots.items) c.args.trigram c.in-Some.place c.self.invariant there in
    rw (← c.self.view_is)
    (c.decode.ensures ∙ ap slot_of_code (get_or_read c.self.inside.slots.items c.in-Some.place c.index.result.now inside c.index.ensures 0)
    ∙ ap (λ p. slot_of_code (code_at c.self.inside.slots.items p)) (sym there))

pub returns-in-None-clause-value : goal.returns-in-None-clause-value
returns-in-None-clause-value c =
    ap (λ p. slot_of_code (code_at c.args.self.now.slots p)) (sym c.in-None.is ∙ c.place.ensures.place)

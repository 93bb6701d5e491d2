use Rattle.std.proofs.Common.{◌≡◌, ◌∙◌, ℕ, length, ap, sym, subst, arith}
use Rattle.std.proofs.lemmas.List.{length-map}
use Rattle.versions.specs.Private.Version.{Entry}
use Rattle.versions.specs.Private.Fresh.{unnamed, as_entry, ArePlaces, SetsPlace}
use Rattle.versions.proofs.FreshLemmas.{places_none, places_next, content_there}
use Rattle.versions.proofs.fresh.places.Goals as goal

pub loop-place-init : goal.loop-place-init
loop-place-init c = places_none c.args.first c.args.count (unnamed c.args.contents.now) c.in_ok-places.places.items c.in_ok-places.ensures

pub loop-place-preserved : goal.loop-place-preserved
loop-place-preserved c =
    let entries = c.args.contents.now in
    let at = c.loop-place-test.true in
    let here = content_there entries c.loop-place.place c.index-contents-place.result at ∙ ap as_entry (sym c.index-contents-place.is) in
    let long = length-map entries as_entry in
    places_next c.args.first c.args.count c.loop-place.place (unnamed entries) c.loop-place.places.items c.mark.new.places.items (omega (arith, at, long))
    c.loop-place.invariant
    (subst (λ (e : Entry). SetsPlace c.args.first e.1.number c.loop-place.place c.loop-place.places.items c.mark.new.places.items) (sym here) c.mark.ensures)

pub returns : goal.returns
returns c =
    let end = c.loop-place.auto.place-end in
    let past = c.loop-place-test.false in
    let same : c.loop-place.place ≡ length c.args.contents.now = omega (arith, end, past) in
    subst (λ (done : ℕ). ArePlaces c.args.first c.args.count (unnamed c.args.contents.now) done c.loop-place.places.items) same c.loop-place.invariant

use Rattle.std.proofs.Common.{◌≡◌, ◌++◌, ◌∷◌, [], length, map, take, refl, sym, ◌∙◌, ap, subst, arith}
use Rattle.std.specs.Prelude.{All}
use Rattle.std.proofs.lemmas.List.{append-nil}
use Rattle.views.specs.Places.{IsPlaced, hits_at}
use Rattle.views.specs.Found.{lines_of_document}
use Rattle.search.specs.Private.Added.{AddsUpTo}
use Rattle.search.specs.Private.Known.{moved_to, room_for}
use Rattle.search.specs.Selects.{IsAsked}
use Rattle.search.proofs.KnownLemmas.{entry-adds, own-is, own_of, placed-moved}
use Rattle.search.proofs.PlaceLemmas.{adds_as, adds_none, adds_with}
use Rattle.search.proofs.known.add_entry.Goals as goal

pub returns-then-count-eq0-clause-hits : goal.returns-then-count-eq0-clause-hits
returns-then-count-eq0-clause-hits g c = λ test is enough.
    let most = c.args.most in
    let documents = c.args.documents.now.items in
    let entry = c.args.entry.now in
    let own = own_of entry c.args.document.now in
    let old = c.args.places.now.items in
    let places = entry.places.items in
    let before : c.len-2.result ≡ length old = omega (arith, c.len-2.ensures, c.args.places.now.ok) in
    let all : c.len-3.result ≡ length places = omega (arith, c.len-3.ensures, entry.places.ok) in
    let size : 0 ≡ room_for most (length old) (length places) =
    sym c.if-count-eq0.true
    ∙ (c.room_for-count.ensures.count ∙ (ap (λ n. room_for most n c.len-3.result) before ∙ ap (λ n. room_for most (length old) n) all)) in
    let adds =
    entry-adds most test (length documents) own.name entry 0 old old is size enough (sym (append-nil old)) in
    adds_none most test documents own old old c.requires.placed adds refl

pub returns-clause-placed : goal.returns-clause-placed
returns-clause-placed g c =
    let documents = c.args.documents.now.items in
    let entry = c.args.entry.now in
    let own = own_of entry c.args.document.now in
    let old = c.args.places.now.items in
    let new = c.append_moved.new.places.items in
    let count = c.room_for-count.result in
    let last : c.in-Ok.number ≡ length documents = omega (arith, c.in-Ok.ensures, c.len.ensures, c.args.documents.now.ok) in
    let grown : new ≡ old ++ map (moved_to c.in-Ok.number) (take count entry.places.items) =
    c.in_ok-append_moved.ensures.places ∙ ap (λ ps. old ++ map (moved_to c.in-Ok.number) (take count ps)) c.deref.ensures.value in
    subst (λ ds. All (IsPlaced ds) new)
    (sym (c.in_ok-push.ensures.items ∙ ap (λ d. documents ++ d ∷ []) (own-is entry c.args.document.now _ _ c.in_ok-share.ensures c.in_ok-share-2.ensures)))
    (placed-moved documents own entry c.in-Ok.number count old new last refl c.requires.inside grown c.requires.placed)

pub returns-clause-hits : goal.returns-clause-hits
returns-clause-hits g c = λ test is enough.
    let most = c.args.most in
    let documents = c.args.documents.now.items in
    let entry = c.args.entry.now in
    let own = own_of entry c.args.document.now in
    let old = c.args.places.now.items in
    let new = c.append_moved.new.places.items in
    let places = entry.places.items in
    let count = c.room_for-count.result in
    let last : c.in-Ok.number ≡ length documents = omega (arith, c.in-Ok.ensures, c.len.ensures, c.args.documents.now.ok) in
    let before : c.len-2.result ≡ length old = omega (arith, c.len-2.ensures, c.args.places.now.ok) in
    let all : c.len-3.result ≡ length places = omega (arith, c.len-3.ensures, entry.places.ok) in
    let size : count ≡ room_for most (length old) (length places) =
    c.room_for-count.ensures.count ∙ (ap (λ n. room_for most n c.len-3.result) before ∙ ap (λ n. room_for most (length old) n) all) in
    let grown : new ≡ old ++ map (moved_to c.in-Ok.number) (take count places) =
    c.in_ok-append_moved.ensures.places ∙ ap (λ ps. old ++ map (moved_to c.in-Ok.number) (take count ps)) c.deref.ensures.value in
    let adds =
    adds_as most test c.in-Ok.number documents own entry.held old new last refl
    (λ name. entry-adds most test c.in-Ok.number name entry count old new is size enough grown) in
    subst (λ ds. AddsUpTo most (IsAsked test) (lines_of_document own.name entry.held) (hits_at documents old) (hits_at ds new))
    (sym (c.in_ok-push.ensures.items ∙ ap (λ d. documents ++ d ∷ []) (own-is entry c.args.document.now _ _ c.in_ok-share.ensures c.in_ok-share-2.ensures)))
    (adds_with most test documents own old new c.requires.placed adds)

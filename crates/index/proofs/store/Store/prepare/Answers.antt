use Rattle.std.proofs.Common.{◌≡◌, Some, refl, sym, ◌∙◌, ap, subst, List, ℕ}
use Rattle.std.proofs.lemmas.Result.{IfOk-weaker}
use Rattle.query.specs.Trigrams.{ListsTrigrams}
use Rattle.posting.specs.Postings.{IsPrepared}
use Rattle.index.specs.declared.store.Store.{Store}
use Rattle.index.specs.Private.Numbered.{document_at}
use Rattle.index.specs.Private.Slots.{documents_in, RiseTo}
use Rattle.index.specs.Private.Sets.{IsChange, NoneIsLeft, is_left}
use Rattle.index.specs.Private.Store.{stored, IsReadyFor}
use Rattle.index.proofs.StoredLemmas.{IsReadyFor-change, IsStore-room, AreSetsOf-same}
use Rattle.index.proofs.store.Store.prepare.Goals as goal

pub returns-clause-ok : goal.returns-clause-ok
returns-clause-ok c =
    let old = c.finish.new.self in
    let new : Store = record { slots = old.slots; sets = c.prepare.new.self; count = old.count; held_bytes = old.held_bytes; trigram_bytes = old.trigram_bytes; expects_fill = old.expects_fill; taken = old.taken } in
    let occupant = c.in-Some.occupant.now in
    let at : document_at c.args.number (stored old) ≡ Some (occupant.name, occupant.held) =
    ap (λ slots. document_at c.args.number (documents_in slots)) (sym c.deref.ensures.value) ∙ sym c.in-Some.ensures in
    let none : NoneIsLeft new.sets.waiting =
    λ t n. ap (λ w. is_left w t n) c.prepare.ensures.waiting ∙ c.in_ok-finish.ensures.ok t n in
    IfOk-weaker c.prepare.result
    (λ change. IsChange c.trigrams.result.now c.args.trigrams.now change × IsPrepared c.prepare.new.self.postings c.args.number change.fresh)
    (λ change. (body : List ℕ) → ListsTrigrams body c.args.trigrams.now → IsReadyFor new c.args.number body change)
    (λ change h body lists.
    IsReadyFor-change new c.args.number occupant.name occupant.held body c.trigrams.result.now c.args.trigrams.now change none at
    c.trigrams.ensures.trigrams lists h.0 h.1)
    c.prepare.ensures.ok

pub occupant_at-requires : goal.occupant_at-requires
occupant_at-requires c =
    let last = c.requires.store.0 in
    let kept = c.finish.ensures.store last c.requires.store.1 in
    (last, subst (RiseTo last) (sym c.deref.ensures.value) kept.slots)

pub returns-clause-store : goal.returns-clause-store
returns-clause-store c = λ last start.
    let old = c.finish.new.self in
    let kept = c.finish.ensures.store last start in
    IsStore-room last old _ kept refl
    (AreSetsOf-same (stored old) old.sets c.prepare.new.self kept.sets c.prepare.ensures.live c.prepare.ensures.postings c.prepare.ensures.waiting) refl
    refl

use Rattle.std.proofs.Common.{◌≡◌, ℕ, ◌≤◌, ◌<◌, Some, None, refl, sym, ◌∙◌, ap, rules}
use Rattle.posting.specs.ListValue.{has}
use Rattle.index.specs.declared.sets.Sets.{Sets}
use Rattle.index.specs.declared.sets.Waiting.TheVariants.{From}
use Rattle.index.specs.Private.Numbered.{document_at}
use Rattle.index.specs.Private.Slots.{documents_in}
use Rattle.index.specs.Private.Sets.{trigrams_at}
use Rattle.index.specs.Private.Store.{stored}
use Rattle.index.proofs.StoredLemmas.{IsStore-room}
use Rattle.index.proofs.PieceLemmas.{AreSetsOf-done}
use Rattle.index.proofs.store.Store.fill_next.Goals as goal

pub returns-in_default-number_from-clause-store : goal.returns-in_default-number_from-clause-store
returns-in_default-number_from-clause-store c = λ last kept.
    let old = c.args.self.now in
    let first = c.in-Some-From.first in
    let waits : old.sets.waiting ≡ Some (From first c.in-Some-From.field-0-1) = search rules in
    let new : Sets = record { live = old.sets.live; postings = old.sets.postings; waiting = None } in
    let none : (n : ℕ) → first ≤ n → document_at n (stored old) ≡ None =
    λ n from. ap (λ slots. document_at n (documents_in slots)) (sym c.deref.ensures.value) ∙ c.in_default-number_from.ensures.none n from in
    IsStore-room last old _ kept refl (AreSetsOf-done (stored old) first c.in-Some-From.field-0-1 old.sets new kept.sets waits none refl refl refl) refl refl

pub returns-in_err-work-clause-store : goal.returns-in_err-work-clause-store
returns-in_err-work-clause-store c = λ last kept.
    let old = c.args.self.now in
    let first = c.in-Some-From.first in
    let number = c.in-Some.number in
    let waits : old.sets.waiting ≡ Some (From first c.in-Some-From.field-0-1) = search rules in
    let between : (n : ℕ) → first ≤ n → n < number → document_at n (stored old) ≡ None =
    λ n from to. ap (λ slots. document_at n (documents_in slots)) (sym c.deref.ensures.value) ∙ c.in-Some.ensures.some n from to in
    let lists : (t : ℕ) → has c.trigrams_of-trigrams.result.now t ≡ trigrams_at (stored old) number t =
    λ t. c.trigrams_of-trigrams.ensures t ∙ ap (λ slots. trigrams_at (documents_in slots) number t) c.deref-2.ensures.value in
    IsStore-room last old _ kept refl (c.put_next.ensures.step (stored old) first c.in-Some-From.field-0-1 kept.sets waits between lists) refl refl

pub returns-clause-store : goal.returns-clause-store
returns-clause-store c = λ last kept.
    let old = c.args.self.now in
    let first = c.in-Some-From.first in
    let number = c.in-Some.number in
    let waits : old.sets.waiting ≡ Some (From first c.in-Some-From.field-0-1) = search rules in
    let between : (n : ℕ) → first ≤ n → n < number → document_at n (stored old) ≡ None =
    λ n from to. ap (λ slots. document_at n (documents_in slots)) (sym c.deref.ensures.value) ∙ c.in-Some.ensures.some n from to in
    let lists : (t : ℕ) → has c.trigrams_of-trigrams.result.now t ≡ trigrams_at (stored old) number t =
    λ t. c.trigrams_of-trigrams.ensures t ∙ ap (λ slots. trigrams_at (documents_in slots) number t) c.deref-2.ensures.value in
    IsStore-room last old _ kept refl (c.put_next.ensures.step (stored old) first c.in-Some-From.field-0-1 kept.sets waits between lists) refl refl

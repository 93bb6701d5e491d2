use Rattle.std.proofs.Common.{◌≡◌, ℕ, refl, ◌∙◌, ap}
use Rattle.posting.specs.ListValue.{has}
use Rattle.index.specs.Private.Slots.{documents_in}
use Rattle.index.specs.Private.Sets.{trigrams_at}
use Rattle.index.specs.Private.Store.{stored}
use Rattle.index.proofs.StoredLemmas.{IsStore-room}
use Rattle.index.proofs.store.Store.move_waiting.Goals as goal

pub returns-clause-store : goal.returns-clause-store
returns-clause-store c = λ last kept.
    let old = c.args.self.now in
    let number = c.args.number in
    let lists : (t : ℕ) → has c.trigrams_of-trigrams.result.now t ≡ trigrams_at (stored old) number t =
    λ t. c.trigrams_of-trigrams.ensures t ∙ ap (λ slots. trigrams_at (documents_in slots) number t) c.deref.ensures.value in
    IsStore-room last old _ kept refl (c.move_some.ensures (stored old) kept.sets lists) refl refl

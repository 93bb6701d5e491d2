use Rattle.std.proofs.Common.{◌≡◌, Some, sym, ◌∙◌, ap}
use Rattle.posting.specs.ListValue.{has}
use Rattle.index.specs.Private.Numbered.{document_at}
use Rattle.index.specs.Private.Slots.{documents_in}
use Rattle.index.specs.Private.Sets.{trigrams_shown}
use Rattle.index.proofs.StoredLemmas.{listed}
use Rattle.index.proofs.store.trigrams_of.Goals as goal

pub returns-in-Some : goal.returns-in-Some
returns-in-Some c = λ t.
    let occupant = c.in-Some.occupant.now in
    let at : document_at c.args.number (documents_in c.args.slots.now) ≡ Some (occupant.name, occupant.held) = sym c.in-Some.ensures in
    listed occupant.held c.trigrams.result.now c.trigrams.ensures.trigrams t ∙ ap (λ found. trigrams_shown found t) (sym at)

pub returns-in-None : goal.returns-in-None
returns-in-None c = λ t. ap (λ ts. has ts t) c.requires.none ∙ ap (λ found. trigrams_shown found t) c.in-None.ensures

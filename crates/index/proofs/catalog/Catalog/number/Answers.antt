use Rattle.std.proofs.Common.{sym, ◌∙◌, ap}
use Rattle.index.specs.Private.Numbered.{number_of}
use Rattle.index.specs.Private.Store.{stored}
use Rattle.index.proofs.NamedLemmas.{number-named}
use Rattle.index.proofs.catalog.Catalog.number.Goals as goal

pub returns : goal.returns
returns c =
    c.copied.ensures
    ∙ c.get.ensures.value
    ∙ sym (number-named c.self.inside.numbers (stored c.self.inside.store) c.args.name.now)
    ∙ ap (λ s. number_of c.args.name.now s.documents) c.self.view_is

use Rattle.std.proofs.Common.{length, sym, ◌∙◌, ap, arith}
use Rattle.std.proofs.lemmas.List.{length-map}
use Rattle.index.specs.Private.Store.{stored}
use Rattle.index.proofs.NamedLemmas.{shown}
use Rattle.index.proofs.catalog.Catalog.documents.Goals as goal

pub overflow_cast-result : goal.overflow_cast-result
overflow_cast-result c = omega (arith, c.len.ensures.len, c.self.invariant.fewer, c.self.invariant.few)

pub returns : goal.returns
returns c =
    c.len.ensures.len
    ∙ sym (length-map c.self.inside.numbers.entries (shown (stored c.self.inside.store)))
    ∙ ap (λ s. length s.documents) c.self.view_is

use Rattle.std.proofs.Common.{◌++◌, sym, ◌∙◌, ap}
use Rattle.std.proofs.lemmas.Result.{on_ok_weaker}
use Rattle.index.specs.Private.Numbered.{document_at, number_of, documents_shared}
use Rattle.index.specs.Private.Chosen.{document_named}
use Rattle.index.specs.Private.Slots.{documents_in}
use Rattle.index.specs.Private.Store.{stored}
use Rattle.index.proofs.NamedLemmas.{number-named, document_of_name}
use Rattle.index.proofs.catalog.Catalog.add.Goals as goal

pub returns : goal.returns
returns c =
    let name = c.args.name.now in
    let number = c.args.number in
    let occupant = c.in-Some.occupant.now in
    let contents = stored c.self.inside.store in
    let found = sym (number-named c.self.inside.numbers contents name) ∙ ap (λ s. number_of name s.documents) c.self.view_is ∙ c.requires in
    let at = sym (c.in-Some.ensures ∙ ap (λ s. document_at number (documents_in s)) c.deref.ensures.value) in
    let one = document_of_name c.self.invariant name number (occupant.name, occupant.held) found at in
    on_ok_weaker c.push_document.result
    (λ e. e ∙ ap (λ ds. documents_shared c.args.shared.now.items ++ ds) (sym one ∙ ap (λ s. document_named s.documents name) c.self.view_is))
    c.push_document.ensures

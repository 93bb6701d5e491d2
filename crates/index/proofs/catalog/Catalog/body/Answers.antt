use Rattle.std.proofs.Common.{Some, sym, ◌∙◌, ap}
use Rattle.std.specs.Prelude.{is_some, option_map}
use Rattle.std.specs.FinMap.{get}
use Rattle.std.proofs.lemmas.Bool.{false≢true}
use Rattle.index.specs.Private.Numbered.{document_at, number_of}
use Rattle.index.specs.Private.Plain.{plain_documents}
use Rattle.index.specs.Private.Slots.{documents_in}
use Rattle.index.specs.Private.Store.{stored}
use Rattle.index.proofs.NamedLemmas.{no_body_named, number-named, body-found, body_there, content_of_number}
use Rattle.index.proofs.catalog.Catalog.body.Goals as goal

pub returns-in_default : goal.returns-in_default
returns-in_default c = sym (no_body_named c.args.self.now.documents c.args.name.now (sym c.number.ensures ∙ c.in_default.is))

pub returns-in_default-occupant_at : goal.returns-in_default-occupant_at
returns-in_default-occupant_at c =
    let name = c.args.name.now in
    let number = c.in-Some.number in
    let contents = stored c.self.inside.store in
    let found =
    sym (number-named c.self.inside.numbers contents name) ∙ ap (λ s. number_of name s.documents) c.self.view_is ∙ sym c.in-Some.ensures in
    let there = content_of_number c.self.invariant name number found in
    absurd (false≢true (ap is_some (c.in_default-occupant_at.ensures ∙ ap (λ s. document_at number (documents_in s)) c.deref.ensures.value) ∙ there))

pub returns : goal.returns
returns c =
    let name = c.args.name.now in
    let number = c.in-Some.number in
    let contents = stored c.self.inside.store in
    let of_name = ap (λ s. number_of name s.documents) c.self.view_is ∙ sym c.in-Some.ensures in
    let there = content_of_number c.self.invariant name number (sym (number-named c.self.inside.numbers contents name) ∙ of_name) in
    ap Some c.body.ensures
    ∙ ap (option_map (λ d. d.1)) (c.in-Some-occupant_at.ensures ∙ ap (λ s. document_at number (documents_in s)) c.deref.ensures.value)
    ∙ body_there (document_at number contents) there
    ∙ sym (body-found c.self.invariant name (Some number) of_name)
    ∙ ap (λ s. get (plain_documents s.documents) name) c.self.view_is

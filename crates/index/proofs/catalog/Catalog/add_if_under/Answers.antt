use Rattle.std.proofs.Common.{◌++◌, map, sym, ◌∙◌, ap}
use Rattle.std.specs.Prelude.{filter}
use Rattle.std.proofs.lemmas.List.{append-nil}
use Rattle.std.proofs.lemmas.Result.{on_ok_weaker}
use Rattle.index.specs.Private.Numbered.{document, document_at, is_under_any, documents_shared}
use Rattle.index.specs.Private.Contents.{body_of}
use Rattle.index.specs.Private.Chosen.{document_numbered}
use Rattle.index.specs.Private.Slots.{documents_in}
use Rattle.index.proofs.NamedLemmas.{numbered-none, numbered-group, numbered-single}
use Rattle.index.proofs.catalog.Catalog.add_if_under.Goals as goal

pub returns-in_default-clause-documents : goal.returns-in_default-clause-documents
returns-in_default-clause-documents g c =
    let number = c.args.number in
    let old = documents_shared c.args.shared.now.items in
    let at = sym (c.in_default.ensures ∙ ap (λ s. document_at number (documents_in s)) c.deref.ensures.value) in
    sym (append-nil old)
    ∙ ap (λ ds. old ++ filter (is_under_any c.args.prefixes.now) ds)
    (sym (numbered-none c.self.invariant number at) ∙ ap (λ s. document_numbered s.documents number) c.self.view_is)

pub returns-in-Some-get-clause-documents : goal.returns-in-Some-get-clause-documents
returns-in-Some-get-clause-documents g c =
    let number = c.args.number in
    let old = documents_shared c.args.shared.now.items in
    let at = c.in-Some.ensures ∙ ap (λ s. document_at number (documents_in s)) c.deref.ensures.value in
    let names = c.in-Some-get.names.now in
    on_ok_weaker c.add_named.result
    (λ e. e
    ∙ ap (λ ds. old ++ filter (is_under_any c.args.prefixes.now) ds)
    (ap (λ o. map (λ q. document number q (body_of o)) names.keys) at
    ∙ (sym (numbered-group c.self.invariant number names (sym c.in-Some-get.ensures.value)) ∙ ap (λ s. document_numbered s.documents number) c.self.view_is)))
    c.add_named.ensures.documents

pub returns-in_ok-add_one-in-None-clause-documents : goal.returns-in_ok-add_one-in-None-clause-documents
returns-in_ok-add_one-in-None-clause-documents g c =
    let number = c.args.number in
    let old = documents_shared c.args.shared.now.items in
    let occupant = c.in-Some.occupant.now in
    let at = sym (c.in-Some.ensures ∙ ap (λ s. document_at number (documents_in s)) c.deref.ensures.value) in
    c.in_ok-add_one-in-None.ensures
    ∙ ap (λ ds. old ++ filter (is_under_any c.args.prefixes.now) ds)
    (sym (numbered-single c.self.invariant number (occupant.name, occupant.held) (sym c.in-None.ensures.value) at) ∙ ap (λ s. document_numbered s.documents number) c.self.view_is)

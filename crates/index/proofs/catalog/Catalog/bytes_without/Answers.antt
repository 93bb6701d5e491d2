use Rattle.std.proofs.Common.{◌≡◌, ◌+◌, Some, length, sym, ◌∙◌, ap, arith}
use Rattle.documents.specs.State.{body_bytes}
use Rattle.std.specs.FinMap.{get, remove}
use Rattle.index.specs.Private.Numbered.{number_of}
use Rattle.index.specs.Private.Contents.{body_at}
use Rattle.index.specs.Private.Plain.{plain_documents}
use Rattle.index.specs.Private.Slots.{documents_in}
use Rattle.index.specs.Private.Store.{stored}
use Rattle.index.proofs.BytesLemmas.{bytes-without, bytes-absent}
use Rattle.index.proofs.NamedLemmas.{body-found, no_body_named}
use Rattle.index.proofs.catalog.Catalog.bytes_without.Goals as goal

pub returns-in_default : goal.returns-in_default
returns-in_default c =
    c.self.invariant.bytes
    ∙ ap (λ s. body_bytes (plain_documents s.documents)) c.self.view_is
    ∙ sym (bytes-absent (plain_documents c.args.self.now.documents) c.args.name.now
    (no_body_named c.args.self.now.documents c.args.name.now (sym c.requires ∙ c.in_default.is)))

pub overflow_sub-result : goal.overflow_sub-result
overflow_sub-result c =
    let name = c.args.name.now in
    let number = c.in-Some.number in
    let body = body_at (stored c.self.inside.store) number in
    let shown = ap (λ s. number_of name s.documents) c.self.view_is in
    let found : get (plain_documents c.args.self.now.documents) name ≡ Some body =
    sym (ap (λ s. get (plain_documents s.documents) name) c.self.view_is)
    ∙ body-found c.self.invariant name (Some number) (shown ∙ sym c.requires ∙ c.in-Some.is) in
    let size = c.length_at-length.ensures ∙ ap (λ s. length (body_at (documents_in s) number)) c.deref.ensures.value in
    omega (
      arith,
      c.self.invariant.bytes,
      ap (λ s. body_bytes (plain_documents s.documents)) c.self.view_is,
      size,
      bytes-without (plain_documents c.args.self.now.documents) name body found,
    )

pub returns : goal.returns
returns c =
    let name = c.args.name.now in
    let number = c.in-Some.number in
    let body = body_at (stored c.self.inside.store) number in
    let shown = ap (λ s. number_of name s.documents) c.self.view_is in
    let found : get (plain_documents c.args.self.now.documents) name ≡ Some body =
    sym (ap (λ s. get (plain_documents s.documents) name) c.self.view_is)
    ∙ body-found c.self.invariant name (Some number) (shown ∙ sym c.requires ∙ c.in-Some.is) in
    let size = c.length_at-length.ensures ∙ ap (λ s. length (body_at (documents_in s) number)) c.deref.ensures.value in
    omega (
      arith,
      c.self.invariant.bytes,
      ap (λ s. body_bytes (plain_documents s.documents)) c.self.view_is,
      size,
      bytes-without (plain_documents c.args.self.now.documents) name body found,
    )

use Rattle.std.proofs.Common.{◌≡◌, Some, None, sym, ◌∙◌, ap, arith, length}
use Rattle.std.specs.Prelude.{option_map}
use Rattle.std.specs.FinMap.{get}
use Rattle.documents.specs.State.{body_bytes}
use Rattle.index.specs.Private.Contents.{body_at, named}
use Rattle.index.specs.Private.Plain.{plain_documents}
use Rattle.index.specs.Private.Slots.{documents_in}
use Rattle.index.specs.Private.Store.{stored}
use Rattle.index.proofs.BytesLemmas.{bytes-without, bytes-absent}
use Rattle.index.proofs.NamedLemmas.{body-named}
use Rattle.index.proofs.copying.bytes_of_others.Goals as goal

pub returns-in_default : goal.returns-in_default
returns-in_default c =
    let contents = stored c.args.store.now in
    let ds = plain_documents (named c.args.numbers.now contents) in
    c.requires.bytes
    ∙ sym (bytes-absent ds c.args.name.now
    (body-named c.args.numbers.now contents c.args.name.now ∙ ap (option_map (body_at contents)) (sym c.number_under.ensures ∙ c.in_default.is)))

pub overflow_sub-result : goal.overflow_sub-result
overflow_sub-result c =
    let contents = stored c.args.store.now in
    let number = c.in-Some.number in
    let ds = plain_documents (named c.args.numbers.now contents) in
    let found : get ds c.args.name.now ≡ Some (body_at contents number) =
    body-named c.args.numbers.now contents c.args.name.now ∙ ap (option_map (body_at contents)) (sym c.number_under.ensures ∙ c.in-Some.is) in
    let size = c.length_at-length.ensures ∙ ap (λ s. length (body_at (documents_in s) number)) c.deref.ensures.value in
    omega (arith, c.requires.bytes, size, bytes-without ds c.args.name.now (body_at contents number) found)

pub returns : goal.returns
returns c =
    let contents = stored c.args.store.now in
    let number = c.in-Some.number in
    let ds = plain_documents (named c.args.numbers.now contents) in
    let found : get ds c.args.name.now ≡ Some (body_at contents number) =
    body-named c.args.numbers.now contents c.args.name.now ∙ ap (option_map (body_at contents)) (sym c.number_under.ensures ∙ c.in-Some.is) in
    let size = c.length_at-length.ensures ∙ ap (λ s. length (body_at (documents_in s) number)) c.deref.ensures.value in
    omega (arith, c.requires.bytes, size, bytes-without ds c.args.name.now (body_at contents number) found)

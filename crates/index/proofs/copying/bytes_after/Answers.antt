use Rattle.std.proofs.Common.{◌∙◌, ap, arith, length}
use Rattle.index.specs.Private.Contents.{body_at, named}
use Rattle.index.specs.Private.Plain.{plain_documents}
use Rattle.index.specs.Private.Slots.{documents_in}
use Rattle.index.specs.Private.Store.{stored}
use Rattle.index.proofs.BytesLemmas.{bytes-with}
use Rattle.index.proofs.copying.bytes_after.Goals as goal

pub returns-in-Some : goal.returns-in-Some
returns-in-Some c =
    let contents = stored c.args.store.now in
    let number = c.args.copy.now.number in
    let ds = plain_documents (named c.args.numbers.now contents) in
    let size = c.length_at-length.ensures ∙ ap (λ s. length (body_at (documents_in s) number)) c.deref.ensures.value in
    omega (arith, c.in-Some.ensures, c.bytes_of_others-others.ensures, size, bytes-with ds c.args.copy.now.name (body_at contents number))

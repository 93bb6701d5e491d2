use Rattle.std.proofs.Common.{◌≡◌, length, ◌∙◌, ap, arith}
use Rattle.std.proofs.lemmas.List.{length-map}
use Rattle.documents.specs.State.{body_bytes}
use Rattle.index.specs.Private.Numbered.{state}
use Rattle.index.specs.Private.Contents.{named}
use Rattle.index.specs.Private.Plain.{plain_documents}
use Rattle.index.specs.Private.Store.{stored}
use Rattle.index.proofs.BytesLemmas.{bytes-with, bytes-fewer}
use Rattle.index.proofs.PlainLemmas.{bytes-most}
use Rattle.index.proofs.NamedLemmas.{shown, state_of_index}
use Rattle.index.proofs.catalog.Catalog.bytes_with.Goals as goal

pub overflow_add-result : goal.overflow_add-result
overflow_add-result c =
    let ds = plain_documents c.args.self.now.documents in
    let contents = stored c.self.inside.store in
    let size : length c.as_bytes.result.now ≡ length c.args.held.now = ap length (c.as_bytes.ensures.bytes ∙ c.body.ensures) in
    let most = bytes-most (state c.self.inside.version (named c.self.inside.numbers contents)) (state_of_index c.self.invariant) in
    let short = c.as_bytes.ensures.body.short in
    omega (
      arith,
      c.bytes_without-others.ensures,
      bytes-fewer ds c.args.name.now,
      ap (λ s. body_bytes (plain_documents s.documents)) c.self.view_is,
      most,
      length-map c.self.inside.numbers.entries (shown contents),
      c.self.invariant.fewer,
      c.self.invariant.few,
      short,
    )

pub returns : goal.returns
returns c =
    let ds = plain_documents c.args.self.now.documents in
    let size : length c.as_bytes.result.now ≡ length c.args.held.now = ap length (c.as_bytes.ensures.bytes ∙ c.body.ensures) in
    omega (arith, c.bytes_without-others.ensures, size, bytes-with ds c.args.name.now c.args.held.now)

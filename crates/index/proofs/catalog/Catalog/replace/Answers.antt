use Rattle.std.proofs.Common.{◌+◌, ◌<◌, ◌^◌, sym, ◌∙◌, ap, arith}
use Rattle.std.specs.FinMap.{insert}
use Rattle.documents.specs.declared.command.Command.TheVariants.{Put}
use Rattle.documents.specs.State.{body_bytes, state, applied}
use Rattle.index.specs.Private.Numbered.{number_of}
use Rattle.index.specs.Private.Contents.{named}
use Rattle.index.specs.Private.Plain.{plain_documents, plain_state}
use Rattle.index.specs.Private.Store.{stored}
use Rattle.index.proofs.NamedLemmas.{number-named, content_of_number}
use Rattle.index.proofs.IndexLemmas.{IsIndex-room, IsIndex-replace, room_for_bytes}
use Rattle.index.proofs.catalog.Catalog.replace.Goals as goal

pub bytes_with-held_bytes-requires : goal.bytes_with-held_bytes-requires
bytes_with-held_bytes-requires c = sym c.requires.own.here

pub replace_body-requires-clause-there : goal.replace_body-requires-clause-there
replace_body-requires-clause-there c =
    let name = c.args.name.now in
    content_of_number c.self.invariant name c.args.number
    (sym (number-named c.self.inside.numbers (stored c.self.inside.store) name) ∙ ap (λ s. number_of name s.documents) c.self.view_is ∙ c.requires.own.here)

pub replace_body-requires-clause-bytes : goal.replace_body-requires-clause-bytes
replace_body-requires-clause-bytes c =
    room_for_bytes c.self.inside.version (stored c.self.inside.store) c.in_ok-held.held c.self.invariant.contents c.trigrams-trigrams.ensures.body
    c.self.invariant.few

pub invariant_of-self : goal.invariant_of-self
invariant_of-self c =
    IsIndex-room c.self.invariant c.replace_body.new.self c.in_err-replace_body.ensures.err
    (c.replace_body.ensures.store c.self.inside.version c.self.invariant.kept)

pub invariant_of-self-2 : goal.invariant_of-self-2
invariant_of-self-2 c =
    let version = c.self.inside.version in
    let name = c.args.name.now in
    let held = c.in_ok-held.held in
    let store = c.self.inside.store in
    let numbers = c.self.inside.numbers in
    let few : version + 1 < 2 ^ 32 = omega (arith, c.requires.few, ap (λ s. s.version) c.self.view_is) in
    let both =
    IsIndex-replace c.self.invariant name held c.args.number c.replace_body.new.self c.bytes_with-held_bytes.result
    (sym (number-named numbers (stored store) name) ∙ ap (λ s. number_of name s.documents) c.self.view_is ∙ c.requires.own.here)
    (λ q also. c.requires.own.only q (sym (ap (λ s. number_of q s.documents) c.self.view_is) ∙ number-named numbers (stored store) q ∙ also))
    c.trigrams-trigrams.ensures.body c.in_ok-replace_body.ensures.ok (c.replace_body.ensures.store version c.self.invariant.kept) few
    (c.bytes_with-held_bytes.ensures
    ∙ sym (ap (λ s. body_bytes (insert (plain_documents s.documents) name c.args.held.now)) c.self.view_is)
    ∙ ap (λ b. body_bytes (insert (plain_documents (named numbers (stored store))) name b)) (sym c.in_ok-held.ensures)) in
    both.0

pub returns-clause-ok : goal.returns-clause-ok
returns-clause-ok c =
    let version = c.self.inside.version in
    let name = c.args.name.now in
    let held = c.in_ok-held.held in
    let store = c.self.inside.store in
    let numbers = c.self.inside.numbers in
    let few : version + 1 < 2 ^ 32 = omega (arith, c.requires.few, ap (λ s. s.version) c.self.view_is) in
    let both =
    IsIndex-replace c.self.invariant name held c.args.number c.replace_body.new.self c.bytes_with-held_bytes.result
    (sym (number-named numbers (stored store) name) ∙ ap (λ s. number_of name s.documents) c.self.view_is ∙ c.requires.own.here)
    (λ q also. c.requires.own.only q (sym (ap (λ s. number_of q s.documents) c.self.view_is) ∙ number-named numbers (stored store) q ∙ also))
    c.trigrams-trigrams.ensures.body c.in_ok-replace_body.ensures.ok (c.replace_body.ensures.store version c.self.invariant.kept) few
    (c.bytes_with-held_bytes.ensures
    ∙ sym (ap (λ s. body_bytes (insert (plain_documents s.documents) name c.args.held.now)) c.self.view_is)
    ∙ ap (λ b. body_bytes (insert (plain_documents (named numbers (stored store))) name b)) (sym c.in_ok-held.ensures)) in
    ap (state (version + 1)) (both.1 ∙ ap (λ b. insert (plain_documents (named numbers (stored store))) name b) c.in_ok-held.ensures)
    ∙ ap (λ s. applied (Put name c.args.held.now) (plain_state s)) c.self.view_is

use Rattle.std.proofs.Common.{◌+◌, ◌<◌, ◌^◌, refl, sym, ◌∙◌, ap, arith, subst}
use Rattle.std.specs.FinMap.{insert}
use Rattle.documents.specs.declared.command.Command.TheVariants.{Put}
use Rattle.documents.specs.State.{body_bytes, state, applied}
use Rattle.index.specs.Private.Numbered.{number_of}
use Rattle.index.specs.Private.Contents.{IsLeft, AreContents, named}
use Rattle.index.specs.Private.Plain.{plain_documents, plain_state}
use Rattle.index.specs.Private.Store.{stored}
use Rattle.index.proofs.ApplyLemmas.{AreContents-new}
use Rattle.index.proofs.NamedLemmas.{number-named}
use Rattle.index.proofs.IndexLemmas.{IsIndex-room, IsIndex-unchanged, IsIndex-put, room_for_bytes}
use Rattle.index.proofs.NewLemmas.{no_new_number, new_names, new_bodies, new_body, new_groups, new_left}
use Rattle.index.proofs.catalog.Catalog.put_new.Goals as goal

pub put_content-requires-clause-store : goal.put_content-requires-clause-store
put_content-requires-clause-store c = (c.self.inside.version, c.self.invariant.kept, omega arith)

pub put_content-requires-clause-bytes : goal.put_content-requires-clause-bytes
put_content-requires-clause-bytes c =
    room_for_bytes c.self.inside.version (stored c.self.inside.store) c.in_ok-held.held c.self.invariant.contents c.trigrams-trigrams.ensures.body
    c.self.invariant.few

pub invariant_of-self : goal.invariant_of-self
invariant_of-self c =
    let err = c.in_err-put_content.ensures in
    IsIndex-unchanged (IsIndex-room c.self.invariant c.put_content.new.store err.kept (err.kept_store c.self.inside.version c.self.invariant.kept))
    c.put_content.new.numbers err.err

pub leave-requires-clause-store : goal.leave-requires-clause-store
leave-requires-clause-store c = (c.self.inside.version + 1, c.in_ok-put_content.ensures.store)

pub leave-requires-clause-name : goal.leave-requires-clause-name
leave-requires-clause-name c =
    let name = c.args.name.now in
    new_left c.self.invariant name c.in_ok-held.held (stored c.put_content.new.store) c.in_ok-put_content.ensures.documents c.args.old
    (c.requires.old ∙ sym (ap (λ s. number_of name s.documents) c.self.view_is) ∙ number-named c.self.inside.numbers (stored c.self.inside.store) name)

pub leave-requires-clause-groups : goal.leave-requires-clause-groups
leave-requires-clause-groups c =
    new_groups c.self.invariant c.args.name.now c.in_ok-held.held (stored c.put_content.new.store) c.in_ok-put_content.ensures.documents

pub invariant_of-self-2 : goal.invariant_of-self-2
invariant_of-self-2 c =
    let version = c.self.inside.version in
    let name = c.args.name.now in
    let held = c.in_ok-held.held in
    let number = version + 1 in
    let is = c.self.invariant in
    let store = c.self.inside.store in
    let left =
    subst (λ o. IsLeft o name (stored c.put_content.new.store) c.self.inside.groups (stored c.leave.new.store) c.leave.new.groups) (c.requires.old ∙ sym (ap (λ s. number_of name s.documents) c.self.view_is) ∙ number-named c.self.inside.numbers (stored store) name)
    c.leave.ensures.left in
    let few : version + 1 < 2 ^ 32 = omega (arith, c.requires.few, ap (λ s. s.version) c.self.view_is) in
    let new = c.in_ok-put_content.ensures in
    let room = c.if-not-has_room.ensures refl in
    let both =
    IsIndex-put is name held number c.put_content.new.numbers (stored c.put_content.new.store) c.self.inside.groups c.leave.new.groups c.leave.new.store
    c.bytes_with-held_bytes.result (no_new_number is name) new.numbers new.ordered new.len room new.name
    (new_names is name held (stored c.put_content.new.store) new.documents) (new_bodies is name held (stored c.put_content.new.store) new.documents)
    (new_body is name held (stored c.put_content.new.store) new.documents)
    (subst (AreContents number) (sym new.documents) (AreContents-new version (stored store) name held c.trigrams-trigrams.ensures.body is.contents))
    left (c.leave.ensures.store number new.store) few
    (c.bytes_with-held_bytes.ensures
    ∙ sym (ap (λ s. body_bytes (insert (plain_documents s.documents) name c.args.held.now)) c.self.view_is)
    ∙ ap (λ b. body_bytes (insert (plain_documents (named c.self.inside.numbers (stored store))) name b)) (sym c.in_ok-held.ensures)) in
    both.0

pub returns-clause-ok : goal.returns-clause-ok
returns-clause-ok c =
    let version = c.self.inside.version in
    let name = c.args.name.now in
    let held = c.in_ok-held.held in
    let number = version + 1 in
    let is = c.self.invariant in
    let store = c.self.inside.store in
    let left =
    subst (λ o. IsLeft o name (stored c.put_content.new.store) c.self.inside.groups (stored c.leave.new.store) c.leave.new.groups) (c.requires.old ∙ sym (ap (λ s. number_of name s.documents) c.self.view_is) ∙ number-named c.self.inside.numbers (stored store) name)
    c.leave.ensures.left in
    let few : version + 1 < 2 ^ 32 = omega (arith, c.requires.few, ap (λ s. s.version) c.self.view_is) in
    let new = c.in_ok-put_content.ensures in
    let room = c.if-not-has_room.ensures refl in
    let both =
    IsIndex-put is name held number c.put_content.new.numbers (stored c.put_content.new.store) c.self.inside.groups c.leave.new.groups c.leave.new.store
    c.bytes_with-held_bytes.result (no_new_number is name) new.numbers new.ordered new.len room new.name
    (new_names is name held (stored c.put_content.new.store) new.documents) (new_bodies is name held (stored c.put_content.new.store) new.documents)
    (new_body is name held (stored c.put_content.new.store) new.documents)
    (subst (AreContents number) (sym new.documents) (AreContents-new version (stored store) name held c.trigrams-trigrams.ensures.body is.contents))
    left (c.leave.ensures.store number new.store) few
    (c.bytes_with-held_bytes.ensures
    ∙ sym (ap (λ s. body_bytes (insert (plain_documents s.documents) name c.args.held.now)) c.self.view_is)
    ∙ ap (λ b. body_bytes (insert (plain_documents (named c.self.inside.numbers (stored store))) name b)) (sym c.in_ok-held.ensures)) in
    ap (state (version + 1)) (both.1 ∙ ap (λ b. insert (plain_documents (named c.self.inside.numbers (stored store))) name b) c.in_ok-held.ensures)
    ∙ ap (λ s. applied (Put name c.args.held.now) (plain_state s)) c.self.view_is

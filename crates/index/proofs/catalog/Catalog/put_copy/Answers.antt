use Rattle.std.proofs.Common.{◌+◌, ◌<◌, ◌^◌, refl, sym, ◌∙◌, ap, arith, subst}
use Rattle.std.specs.FinMap.{insert}
use Rattle.documents.specs.State.{body_bytes, state, applied}
use Rattle.index.specs.Private.Numbered.{document_at, number_of}
use Rattle.index.specs.Private.Contents.{IsLeft, is_number}
use Rattle.index.specs.Private.Plain.{plain_documents, plain_state}
use Rattle.index.specs.Private.Slots.{documents_in}
use Rattle.index.specs.Private.Store.{stored}
use Rattle.std.specs.Prelude.{option_map}
use Rattle.documents.specs.declared.command.Command.TheVariants.{Put}
use Rattle.index.proofs.ApplyLemmas.{AreContents-later}
use Rattle.index.proofs.NamedLemmas.{number-named, number_is, body_is}
use Rattle.index.proofs.IndexLemmas.{IsIndex-unchanged, IsIndex-groups, IsIndex-later, IsIndex-put, same-put, later_store, still_left}
use Rattle.index.proofs.catalog.Catalog.put_copy.Goals as goal

pub invariant_of-self : goal.invariant_of-self
invariant_of-self c =
    let version = c.self.inside.version in
    let few : version + 1 < 2 ^ 32 = omega (arith, c.requires.few, ap (λ s. s.version) c.self.view_is) in
    IsIndex-later c.self.invariant few

pub returns-then-is_number-clause-put : goal.returns-then-is_number-clause-put
returns-then-is_number-clause-put c = λ yes.
    let version = c.self.inside.version in
    let name = c.args.name.now in
    let held = c.args.held.now in
    let number = c.in-Some.number in
    let is = c.self.invariant in
    let store = c.self.inside.store in
    let numbers = c.self.inside.numbers in
    let of_name = c.requires.old ∙ sym (ap (λ s. number_of name s.documents) c.self.view_is) ∙ number-named numbers (stored store) name in
    let here = body_is (document_at number (stored store)) held (sym (ap (λ s. option_map (λ d. d.1) (document_at number (documents_in s))) c.deref.ensures.value) ∙ c.in-Some.ensures) in
    let few : version + 1 < 2 ^ 32 = omega (arith, c.requires.few, ap (λ s. s.version) c.self.view_is) in
    ap (state (version + 1))
    (same-put is name held number (sym of_name ∙ number_is number c.args.old (sym c.if-is_number.ensures)) here)
    ∙ ap (λ s. applied (Put name held) (plain_state s)) c.self.view_is

pub enter_copy-requires-clause-store : goal.enter_copy-requires-clause-store
enter_copy-requires-clause-store c = (c.self.inside.version, c.self.invariant.kept)

pub enter_copy-requires-clause-free : goal.enter_copy-requires-clause-free
enter_copy-requires-clause-free c = λ none. c.self.invariant.names c.in-Some.number c.args.name.now ∙ ap (is_number c.in-Some.number) none

pub invariant_of-self-in_err-enter_copy : goal.invariant_of-self-in_err-enter_copy
invariant_of-self-in_err-enter_copy c =
    IsIndex-groups (IsIndex-unchanged c.self.invariant c.enter_copy.new.numbers c.in_err-enter_copy.ensures.err) c.enter_copy.new.groups c.in_err-enter_copy.ensures.kept

pub leave-requires-clause-store : goal.leave-requires-clause-store
leave-requires-clause-store c = (c.self.inside.version, c.self.invariant.kept)

pub leave-requires-clause-name : goal.leave-requires-clause-name
leave-requires-clause-name c =
    let name = c.args.name.now in
    let of_name = c.requires.old ∙ sym (ap (λ s. number_of name s.documents) c.self.view_is) ∙ number-named c.self.inside.numbers (stored c.self.inside.store) name in
    still_left c.self.invariant name c.in-Some.number c.enter_copy.new.groups c.in_ok-enter_copy.ensures.ok.names c.args.old of_name

pub leave-requires-clause-groups : goal.leave-requires-clause-groups
leave-requires-clause-groups c = c.in_ok-enter_copy.ensures.ok.groups_of c.self.invariant.groups_of

pub invariant_of-self-2 : goal.invariant_of-self-2
invariant_of-self-2 c =
    let version = c.self.inside.version in
    let name = c.args.name.now in
    let held = c.args.held.now in
    let number = c.in-Some.number in
    let is = c.self.invariant in
    let store = c.self.inside.store in
    let numbers = c.self.inside.numbers in
    let of_name = c.requires.old ∙ sym (ap (λ s. number_of name s.documents) c.self.view_is) ∙ number-named numbers (stored store) name in
    let here = body_is (document_at number (stored store)) held (sym (ap (λ s. option_map (λ d. d.1) (document_at number (documents_in s))) c.deref.ensures.value) ∙ c.in-Some.ensures) in
    let few : version + 1 < 2 ^ 32 = omega (arith, c.requires.few, ap (λ s. s.version) c.self.view_is) in
    let new = c.in_ok-enter_copy.ensures in
    let room = c.if-not-has_room.ensures refl in
    let left =
    subst (λ o. IsLeft o name (stored store) c.enter_copy.new.groups (stored c.leave.new.store) c.leave.new.groups) of_name c.leave.ensures.left in
    let both =
    IsIndex-put is name held number c.enter_copy.new.numbers (stored store) c.enter_copy.new.groups c.leave.new.groups c.leave.new.store c.bytes_with-held_bytes.result
    (ap (is_number number) (sym of_name) ∙ sym c.if-is_number.ensures) new.numbers new.ordered new.len room new.name new.ok.names (λ m q h. refl) here
    (AreContents-later version (stored store) is.contents) left (later_store version c.leave.new.store (c.leave.ensures.store version is.kept)) few
    (c.bytes_with-held_bytes.ensures ∙ sym (ap (λ s. body_bytes (insert (plain_documents s.documents) name held)) c.self.view_is)) in
    both.0

pub returns-clause-put : goal.returns-clause-put
returns-clause-put c = λ yes.
    let version = c.self.inside.version in
    let name = c.args.name.now in
    let held = c.args.held.now in
    let number = c.in-Some.number in
    let is = c.self.invariant in
    let store = c.self.inside.store in
    let numbers = c.self.inside.numbers in
    let of_name = c.requires.old ∙ sym (ap (λ s. number_of name s.documents) c.self.view_is) ∙ number-named numbers (stored store) name in
    let here = body_is (document_at number (stored store)) held (sym (ap (λ s. option_map (λ d. d.1) (document_at number (documents_in s))) c.deref.ensures.value) ∙ c.in-Some.ensures) in
    let few : version + 1 < 2 ^ 32 = omega (arith, c.requires.few, ap (λ s. s.version) c.self.view_is) in
    let new = c.in_ok-enter_copy.ensures in
    let room = c.if-not-has_room.ensures refl in
    let left =
    subst (λ o. IsLeft o name (stored store) c.enter_copy.new.groups (stored c.leave.new.store) c.leave.new.groups) of_name c.leave.ensures.left in
    let both =
    IsIndex-put is name held number c.enter_copy.new.numbers (stored store) c.enter_copy.new.groups c.leave.new.groups c.leave.new.store c.bytes_with-held_bytes.result
    (ap (is_number number) (sym of_name) ∙ sym c.if-is_number.ensures) new.numbers new.ordered new.len room new.name new.ok.names (λ m q h. refl) here
    (AreContents-later version (stored store) is.contents) left (later_store version c.leave.new.store (c.leave.ensures.store version is.kept)) few
    (c.bytes_with-held_bytes.ensures ∙ sym (ap (λ s. body_bytes (insert (plain_documents s.documents) name held)) c.self.view_is)) in
    ap (state (version + 1)) both.1 ∙ ap (λ s. applied (Put name held) (plain_state s)) c.self.view_is

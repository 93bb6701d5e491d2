use Rattle.std.proofs.Common.{◌+◌, ◌<◌, ◌^◌, None, sym, ◌∙◌, ap, arith, subst}
use Rattle.std.specs.FinMap.{remove}
use Rattle.documents.specs.declared.command.Command.TheVariants.{Remove}
use Rattle.documents.specs.State.{body_bytes, state, applied}
use Rattle.index.specs.Private.Contents.{IsLeft}
use Rattle.index.specs.Private.Plain.{plain_documents, plain_state}
use Rattle.index.specs.Private.Store.{stored}
use Rattle.index.specs.Private.Numbered.{number_of}
use Rattle.index.proofs.NamedLemmas.{left_name, number-named}
use Rattle.index.proofs.IndexLemmas.{IsIndex-remove, IsIndex-later, changed_at, shorter}
use Rattle.index.proofs.catalog.Catalog.remove.Goals as goal

pub leave-requires-clause-store : goal.leave-requires-clause-store
leave-requires-clause-store c = (c.self.inside.version, c.self.invariant.kept)

pub leave-requires-clause-name : goal.leave-requires-clause-name
leave-requires-clause-name c = left_name c.self.invariant c.args.name.now c.number-old.result (c.number-old.ensures ∙ sym (ap (λ s. number_of c.args.name.now s.documents) c.self.view_is) ∙ number-named c.self.inside.numbers (stored c.self.inside.store) c.args.name.now)

pub leave-requires-clause-groups : goal.leave-requires-clause-groups
leave-requires-clause-groups c = c.self.invariant.groups_of

pub invariant_of-self : goal.invariant_of-self
invariant_of-self c =
    let version = c.self.inside.version in
    let name = c.args.name.now in
    let groups = c.leave.new.groups in
    let left = subst (λ o. IsLeft o name (stored c.self.inside.store) c.self.inside.groups (stored c.leave.new.store) groups)
    (c.number-old.ensures ∙ sym (ap (λ s. number_of c.args.name.now s.documents) c.self.view_is) ∙ number-named c.self.inside.numbers (stored c.self.inside.store) c.args.name.now)
    c.leave.ensures.left in
    let both =
    IsIndex-remove c.self.invariant name c.remove.new.self groups c.leave.new.store c.bytes_without-held_bytes.result
    (changed_at c.self.inside.numbers c.remove.new.self name None c.remove.ensures.updates.0) c.remove.ensures.ordered
    (shorter c.remove.result _ _ c.remove.ensures.len) left (c.leave.ensures.store version c.self.invariant.kept)
    (c.bytes_without-held_bytes.ensures ∙ sym (ap (λ s. body_bytes (remove (plain_documents s.documents) name)) c.self.view_is)) in
    let few : version + 1 < 2 ^ 32 = omega (arith, c.requires, ap (λ s. s.version) c.self.view_is) in
    IsIndex-later both.0 few

pub returns-clause-ok : goal.returns-clause-ok
returns-clause-ok c =
    let version = c.self.inside.version in
    let name = c.args.name.now in
    let groups = c.leave.new.groups in
    let left = subst (λ o. IsLeft o name (stored c.self.inside.store) c.self.inside.groups (stored c.leave.new.store) groups)
    (c.number-old.ensures ∙ sym (ap (λ s. number_of c.args.name.now s.documents) c.self.view_is) ∙ number-named c.self.inside.numbers (stored c.self.inside.store) c.args.name.now)
    c.leave.ensures.left in
    let both =
    IsIndex-remove c.self.invariant name c.remove.new.self groups c.leave.new.store c.bytes_without-held_bytes.result
    (changed_at c.self.inside.numbers c.remove.new.self name None c.remove.ensures.updates.0) c.remove.ensures.ordered
    (shorter c.remove.result _ _ c.remove.ensures.len) left (c.leave.ensures.store version c.self.invariant.kept)
    (c.bytes_without-held_bytes.ensures ∙ sym (ap (λ s. body_bytes (remove (plain_documents s.documents) name)) c.self.view_is)) in
    ap (state (version + 1)) both.1 ∙ ap (λ s. applied (Remove name) (plain_state s)) c.self.view_is

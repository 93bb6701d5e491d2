use Rattle.std.proofs.Common.{refl, sym, ◌∙◌, ap}
use Rattle.std.specs.Ordering.{nat_cmp}
use Rattle.std.specs.Cmp.Lexicographic.{slice_cmp}
use Rattle.std.specs.BTreeMap.{get}
use Rattle.index.specs.Private.Numbered.{document_at}
use Rattle.index.specs.Private.Slots.{documents_in}
use Rattle.index.specs.Private.Store.{stored}
use Rattle.index.proofs.IndexLemmas.{inserted_name, longer}
use Rattle.index.proofs.LeaveLemmas.{on_err, HasNames-same, HasNames-joined, HasNames-back}
use Rattle.index.proofs.catalog.enter_copy.Goals as goal

pub returns-in_default-clause-kept : goal.returns-in_default-clause-kept
returns-in_default-clause-kept c = HasNames-same (stored c.args.store.now) c.args.groups.now c.args.groups.now (λ m. refl)

pub returns-in_err-own-clause-kept : goal.returns-in_err-own-clause-kept
returns-in_err-own-clause-kept c =
    on_err c.from_residual.result (HasNames-same (stored c.args.store.now) c.args.groups.now c.args.groups.now (λ m. refl))

pub returns-in_err-join-clause-kept : goal.returns-in_err-join-clause-kept
returns-in_err-join-clause-kept c =
    on_err c.from_residual-in_err-join.result
    (HasNames-same (stored c.args.store.now) c.args.groups.now c.join.new.groups c.in_err-join.ensures.err)

pub take_back-requires : goal.take_back-requires
take_back-requires c = c.in_ok-join.ensures.ok.there

pub returns-clause-kept : goal.returns-clause-kept
returns-clause-kept c =
    let contents = stored c.args.store.now in
    let first = c.in-Some.occupant.now in
    HasNames-back contents c.args.groups.now c.join.new.groups c.take_back.new.groups c.args.number c.args.name.now
    (c.requires.free (ap (get (slice_cmp nat_cmp) c.args.numbers.now) (sym c.in_ok-own.ensures) ∙ c.in-Err.ensures.absent))
    (HasNames-joined contents c.args.groups.now c.join.new.groups c.args.number first.name first.held c.args.name.now (sym (c.in-Some.ensures ∙ ap (λ s. document_at c.args.number (documents_in s)) c.deref.ensures.value))
    c.in_ok-join.ensures.ok)
    c.take_back.ensures

pub returns-in-Ok-clause-numbers : goal.returns-in-Ok-clause-numbers
returns-in-Ok-clause-numbers c =
    inserted_name c.args.numbers.now c.insert.new.self c.args.name.now c.in_ok-own.own c.args.number c.in_ok-own.ensures c.in-Ok.ensures.updates.0

pub returns-in-Ok-clause-len : goal.returns-in-Ok-clause-len
returns-in-Ok-clause-len c = longer c.in-Ok.field-0 _ _ c.in-Ok.ensures.len

pub returns-in-Ok-clause-ok : goal.returns-in-Ok-clause-ok
returns-in-Ok-clause-ok c =
    let first = c.in-Some.occupant.now in
    HasNames-joined (stored c.args.store.now) c.args.groups.now c.join.new.groups c.args.number first.name first.held c.args.name.now
    (sym (c.in-Some.ensures ∙ ap (λ s. document_at c.args.number (documents_in s)) c.deref.ensures.value)) c.in_ok-join.ensures.ok

use Rattle.std.proofs.Common.{◌≡◌, true, false, ◌&&◌, ◌++◌, sym, ◌∙◌, ap, subst, arith}
use Rattle.std.specs.Prelude.{filter}
use Rattle.std.proofs.lemmas.List.{length-map}
use Rattle.posting.specs.ListValue.{has}
use Rattle.prefixes.specs.Under.{begins_with}
use Rattle.index.specs.Private.Numbered.{number_of, is_under, document_of, documents_shared, IsInNameOrder}
use Rattle.index.specs.Private.Chosen.{IsFirstUnder, documents_named}
use Rattle.index.proofs.UnderLemmas.{Behind-first, picked}
use Rattle.index.proofs.NamedLemmas.{many_taken, found_between}
use Rattle.index.proofs.ChosenLemmas.{taken-none, taken-keep, taken-skip, taken-stop, taken-end, found_next, all-first, most-first}
use Rattle.index.proofs.catalog.Catalog.under_from.Goals as goal

pub loop-name-init : goal.loop-name-init
loop-name-init g c =
    let text = c.args.prefix.now in
    let all = c.into_iter-name-iterator.result in
    let first = subst (IsFirstUnder text) (sym c.as_ref.ensures) c.requires.first in
    let between = c.into_iter-name-iterator.ensures.into_iter_gives ∙ c.range-name-items.ensures.between tt in
    taken-none c.args.self.now.documents (has c.args.among.now) text all (documents_shared c.args.room.items)
    (ap documents_shared c.requires.empty) (Behind-first text _ first c.self.inside.numbers.entries all c.range-name-items.ensures.ordered between)
    (λ e there. sym (ap (λ s. number_of e.0 s.documents) c.self.view_is) ∙ found_between c.self.invariant _ all between e there)

pub add-requires : goal.add-requires
add-requires g c =
    found_next c.args.self.now.documents (has c.args.among.now) c.args.prefix.now c.into_iter-name-iterator.result (documents_shared c.loop-name.shared.items)
    c.loop-name.name-iterator c.next.new.self c.in-Some.name.now c.in-Some.number.now c.in-Some.ensures.steps c.loop-name.invariant

pub loop-name-preserved : goal.loop-name-preserved
loop-name-preserved g c =
    let number = c.in-Some.number.now in
    let members = c.args.among.now in
    let other : has members number ≡ false = sym c.if-has.ensures in
    taken-skip c.args.self.now.documents (has members) c.args.prefix.now c.into_iter-name-iterator.result (documents_shared c.loop-name.shared.items)
    c.loop-name.name-iterator c.next.new.self c.in-Some.name.now number c.in-Some.ensures.steps other c.loop-name.invariant

pub loop-name-preserved-in-Continue-branch-2 : goal.loop-name-preserved-in-Continue-branch-2
loop-name-preserved-in-Continue-branch-2 g c =
    let number = c.in-Some.number.now in
    let members = c.args.among.now in
    let text = c.args.prefix.now in
    let here : has members number ≡ true = sym c.if-has.ensures in
    let begins : begins_with text c.in-Some.name.now ≡ true = ap (begins_with text) (sym c.as_bytes.ensures.bytes) ∙ sym c.if-not-starts_with.ensures.value in
    taken-keep c.args.self.now.documents (has members) text c.into_iter-name-iterator.result (documents_shared c.loop-name.shared.items)
    (documents_shared c.add.new.shared.items) c.loop-name.name-iterator c.next.new.self c.in-Some.name.now number c.in-Some.ensures.steps here begins
    c.in_ok-add.ensures c.loop-name.invariant

pub returns-then-not-starts_with-clause-documents : goal.returns-then-not-starts_with-clause-documents
returns-then-not-starts_with-clause-documents g c =
    let ds = c.args.self.now.documents in
    let test = has c.args.among.now in
    let text = c.args.prefix.now in
    let all = c.into_iter-name-iterator.result in
    let taken = documents_shared c.loop-name.shared.items in
    let first = subst (IsFirstUnder text) (sym c.as_ref.ensures) c.requires.first in
    let other : begins_with text c.in-Some.name.now ≡ false = ap (begins_with text) (sym c.as_bytes.ensures.bytes) ∙ sym c.if-not-starts_with.ensures.value in
    let shown = ap (λ s. s.documents) c.self.view_is in
    all-first c.args.most (filter (λ d. test d.number && is_under text d) ds) taken
    (subst (λ xs. IsInNameOrder (filter (λ d. test d.number && is_under text d) xs) taken) shown
    (many_taken c.self.invariant test text _ first all (c.into_iter-name-iterator.ensures.into_iter_gives ∙ c.range-name-items.ensures.between tt) taken
    (taken-stop ds test text all taken c.loop-name.name-iterator c.next.new.self c.in-Some.name.now c.in-Some.number.now c.in-Some.ensures.steps other
    c.loop-name.invariant
    ∙ sym (ap (λ xs. documents_named xs (picked test text all)) shown))))

pub returns-then-len-most-clause-documents : goal.returns-then-len-most-clause-documents
returns-then-len-most-clause-documents g c =
    let ds = c.args.self.now.documents in
    let test = has c.args.among.now in
    let text = c.args.prefix.now in
    let all = c.into_iter-name-iterator.result in
    let taken = documents_shared c.loop-name.shared.items in
    let first = subst (IsFirstUnder text) (sym c.as_ref.ensures) c.requires.first in
    let others = documents_named ds (picked test text c.loop-name.name-iterator) in
    let shown = ap (λ s. s.documents) c.self.view_is in
    most-first c.args.most (filter (λ d. test d.number && is_under text d) ds) taken others
    (subst (λ xs. IsInNameOrder (filter (λ d. test d.number && is_under text d) xs) (taken ++ others)) shown
    (many_taken c.self.invariant test text _ first all (c.into_iter-name-iterator.ensures.into_iter_gives ∙ c.range-name-items.ensures.between tt) (taken ++ others)
    (c.loop-name.invariant.so_far ∙ sym (ap (λ xs. documents_named xs (picked test text all)) shown))))
    (omega (arith, c.if-len-most.true, c.len.ensures, c.loop-name.shared.ok, length-map c.loop-name.shared.items document_of))

pub returns-clause-documents : goal.returns-clause-documents
returns-clause-documents g c =
    let ds = c.args.self.now.documents in
    let test = has c.args.among.now in
    let text = c.args.prefix.now in
    let all = c.into_iter-name-iterator.result in
    let taken = documents_shared c.loop-name.shared.items in
    let first = subst (IsFirstUnder text) (sym c.as_ref.ensures) c.requires.first in
    let shown = ap (λ s. s.documents) c.self.view_is in
    all-first c.args.most (filter (λ d. test d.number && is_under text d) ds) taken
    (subst (λ xs. IsInNameOrder (filter (λ d. test d.number && is_under text d) xs) taken) shown
    (many_taken c.self.invariant test text _ first all (c.into_iter-name-iterator.ensures.into_iter_gives ∙ c.range-name-items.ensures.between tt) taken
    (taken-end ds test text all taken c.loop-name.name-iterator c.in-None.ensures.steps.0 c.loop-name.invariant
    ∙ sym (ap (λ xs. documents_named xs (picked test text all)) shown))))

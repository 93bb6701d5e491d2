use Rattle.std.proofs.Common.{◌+◌, ◌<◌, ◌≡◌, ◌^◌, length, refl, ◌∙◌, ap, subst, arith, take}
use Rattle.std.proofs.lemmas.List.{length-take}
use Rattle.std.proofs.lemmas.List.Elements.{All-contains}
use Rattle.std.specs.BTreeMap.{btree_map_len}
use Rattle.index.specs.declared.copying.Leaves.TheVariants.{Old}
use Rattle.index.specs.Private.Contents.{body_at}
use Rattle.index.specs.Private.Copying.{IsEntered, AreLeft}
use Rattle.index.specs.Private.Moving.{IsMove}
use Rattle.documents.specs.State.{state}
use Rattle.index.specs.Private.Plain.{plain_state}
use Rattle.index.specs.Private.Slots.{documents_in}
use Rattle.index.specs.Private.Store.{stored}
use Rattle.index.proofs.CopiedLemmas.{taken_inside}
use Rattle.index.proofs.MovedLemmas.{IsIndex-over}
use Rattle.index.proofs.catalog.Catalog.move_names.Goals as goal

pub invariant_of-self-2 : goal.invariant_of-self-2
invariant_of-self-2 c =
    let i = c.self.inside in
    let contents = stored i.store in
    let from = c.args.from in
    let to = c.args.to in
    let items = c.in-Some.moves.items in
    let are = c.in-Some.ensures in
    let count = c.enter_all-count.result.0 in
    let new = c.enter_all-count.new.numbers in
    let mid = c.enter_all-count.new.groups in
    let room : btree_map_len i.numbers + length (take count items) < 2 ^ 32 =
    omega (arith, c.if-not-has_room.ensures refl, c.len.ensures, c.in-Some.moves.ok, length-take count items) in
    (IsIndex-over c.self.invariant from to are.differ
    (subst (λ xs. body_at (documents_in xs) from ≡ body_at (documents_in xs) to) c.deref.ensures.value are.same)
    (take count items) (λ x there. All-contains (IsMove from to i.numbers) items x are.each (taken_inside items count x there)) new mid
    c.leave_all.new.groups c.leave_all.new.store
    (subst (λ xs. IsEntered (take count xs) contents i.numbers i.groups new mid) c.deref-2.ensures.value c.enter_all-count.ensures.entered)
    (subst (λ xs. AreLeft Old (take count xs) contents mid (stored c.leave_all.new.store) c.leave_all.new.groups) c.deref-3.ensures.value c.leave_all.ensures.left)
    c.leave_all.ensures.store room).0

pub returns : goal.returns
returns c =
    let i = c.self.inside in
    let contents = stored i.store in
    let from = c.args.from in
    let to = c.args.to in
    let items = c.in-Some.moves.items in
    let are = c.in-Some.ensures in
    let count = c.enter_all-count.result.0 in
    let new = c.enter_all-count.new.numbers in
    let mid = c.enter_all-count.new.groups in
    let room : btree_map_len i.numbers + length (take count items) < 2 ^ 32 =
    omega (arith, c.if-not-has_room.ensures refl, c.len.ensures, c.in-Some.moves.ok, length-take count items) in
    ap (state i.version)
    (IsIndex-over c.self.invariant from to are.differ
    (subst (λ xs. body_at (documents_in xs) from ≡ body_at (documents_in xs) to) c.deref.ensures.value are.same)
    (take count items) (λ x there. All-contains (IsMove from to i.numbers) items x are.each (taken_inside items count x there)) new mid
    c.leave_all.new.groups c.leave_all.new.store
    (subst (λ xs. IsEntered (take count xs) contents i.numbers i.groups new mid) c.deref-2.ensures.value c.enter_all-count.ensures.entered)
    (subst (λ xs. AreLeft Old (take count xs) contents mid (stored c.leave_all.new.store) c.leave_all.new.groups) c.deref-3.ensures.value c.leave_all.ensures.left)
    c.leave_all.ensures.store room).1
    ∙ ap plain_state c.self.view_is

use Rattle.std.proofs.Common.{◌+◌, ◌<◌, ◌≤◌, ◌^◌, ◌≡◌, ℕ, List, length, refl, ◌∙◌, ap, subst, arith, take}
use Rattle.std.proofs.lemmas.List.{length-take, take_all}
use Rattle.std.specs.Ordering.{nat_cmp}
use Rattle.std.specs.Cmp.Lexicographic.{slice_cmp}
use Rattle.std.specs.BTreeMap.{btree_map_len, get}
use Rattle.std.specs.Prelude.{Contains}
use Rattle.documents.specs.declared.command.Command.TheVariants.{CopyUnder}
use Rattle.index.specs.declared.copying.Leaves.TheVariants.{Old, New}
use Rattle.documents.specs.State.{state, applied}
use Rattle.index.specs.Private.Copying.{restored, IsEntered, AreLeft}
use Rattle.index.specs.Private.Plain.{plain_state}
use Rattle.index.specs.Private.Store.{stored}
use Rattle.index.proofs.CopiedLemmas.{IsIndex-copied, IsIndex-back, taken_inside}
use Rattle.index.proofs.catalog.Catalog.copy_under.Goals as goal

pub invariant_of-self : goal.invariant_of-self
invariant_of-self c =
    let i = c.self.inside in
    let contents = stored i.store in
    let items = c.in_ok-copies.copies.items in
    let count = c.enter_all-count.result.0 in
    let middle = c.enter_all-count.new.numbers in
    let mid = c.enter_all-count.new.groups in
    let new = c.restore_all.new.numbers in
    let room : btree_map_len i.numbers + length (take count items) < 2 ^ 32 =
    omega (arith, c.if-not-has_room.ensures refl, c.len.ensures, c.in_ok-copies.copies.ok, length-take count items) in
    (IsIndex-back c.self.invariant c.args.from.now c.args.to.now (take count items)
    (λ x there. subst (λ xs. Contains xs x) c.in_ok-copies.ensures (taken_inside items count x there)) middle new mid c.leave_all.new.groups c.leave_all.new.store
    (subst (λ xs. IsEntered (take count xs) contents i.numbers i.groups middle mid) c.deref.ensures.value c.enter_all-count.ensures.entered)
    (subst (λ xs. (q : List ℕ) → get (slice_cmp nat_cmp) new q ≡ restored (take count xs) q (get (slice_cmp nat_cmp) middle q)) c.deref-then-count-len.ensures.value
    c.restore_all.ensures.numbers)
    c.restore_all.ensures.ordered c.restore_all.ensures.len
    (subst (λ xs. AreLeft New (take count xs) contents mid (stored c.leave_all.new.store) c.leave_all.new.groups) c.deref-then-count-len.ensures.value
    c.leave_all.ensures.left)
    c.leave_all.ensures.store room).0

pub returns-then-count-len-clause-err : goal.returns-then-count-len-clause-err
returns-then-count-len-clause-err c =
    let i = c.self.inside in
    let contents = stored i.store in
    let items = c.in_ok-copies.copies.items in
    let count = c.enter_all-count.result.0 in
    let middle = c.enter_all-count.new.numbers in
    let mid = c.enter_all-count.new.groups in
    let new = c.restore_all.new.numbers in
    let room : btree_map_len i.numbers + length (take count items) < 2 ^ 32 =
    omega (arith, c.if-not-has_room.ensures refl, c.len.ensures, c.in_ok-copies.copies.ok, length-take count items) in
    ap (state i.version)
    (IsIndex-back c.self.invariant c.args.from.now c.args.to.now (take count items)
    (λ x there. subst (λ xs. Contains xs x) c.in_ok-copies.ensures (taken_inside items count x there)) middle new mid c.leave_all.new.groups c.leave_all.new.store
    (subst (λ xs. IsEntered (take count xs) contents i.numbers i.groups middle mid) c.deref.ensures.value c.enter_all-count.ensures.entered)
    (subst (λ xs. (q : List ℕ) → get (slice_cmp nat_cmp) new q ≡ restored (take count xs) q (get (slice_cmp nat_cmp) middle q)) c.deref-then-count-len.ensures.value
    c.restore_all.ensures.numbers)
    c.restore_all.ensures.ordered c.restore_all.ensures.len
    (subst (λ xs. AreLeft New (take count xs) contents mid (stored c.leave_all.new.store) c.leave_all.new.groups) c.deref-then-count-len.ensures.value
    c.leave_all.ensures.left)
    c.leave_all.ensures.store room).1
    ∙ ap plain_state c.self.view_is

pub invariant_of-self-2 : goal.invariant_of-self-2
invariant_of-self-2 c =
    let i = c.self.inside in
    let contents = stored i.store in
    let items = c.in_ok-copies.copies.items in
    let count = c.enter_all-count.result.0 in
    let new = c.enter_all-count.new.numbers in
    let mid = c.enter_all-count.new.groups in
    let room : btree_map_len i.numbers + length items < 2 ^ 32 = omega (arith, c.if-not-has_room.ensures refl, c.len.ensures, c.in_ok-copies.copies.ok) in
    let few : i.version + 1 < 2 ^ 32 = omega (arith, c.requires, ap (λ s. s.version) c.self.view_is) in
    let every : length items ≤ count = omega (arith, c.if-count-len.false, c.len-2.ensures, c.in_ok-copies.copies.ok) in
    (IsIndex-copied c.self.invariant c.args.from.now c.args.to.now items new mid c.leave_all-2.new.groups c.leave_all-2.new.store c.enter_all-count.result.1
    c.in_ok-copies.ensures
    (subst (λ xs. IsEntered xs contents i.numbers i.groups new mid) (take_all count items every)
    (subst (λ xs. IsEntered (take count xs) contents i.numbers i.groups new mid) c.deref.ensures.value c.enter_all-count.ensures.entered))
    (subst (λ xs. AreLeft Old xs contents mid (stored c.leave_all-2.new.store) c.leave_all-2.new.groups) c.deref-2.ensures.value c.leave_all-2.ensures.left)
    c.leave_all-2.ensures.store room few c.enter_all-count.ensures.bytes).0

pub returns-clause-ok : goal.returns-clause-ok
returns-clause-ok c =
    let i = c.self.inside in
    let contents = stored i.store in
    let items = c.in_ok-copies.copies.items in
    let count = c.enter_all-count.result.0 in
    let new = c.enter_all-count.new.numbers in
    let mid = c.enter_all-count.new.groups in
    let room : btree_map_len i.numbers + length items < 2 ^ 32 = omega (arith, c.if-not-has_room.ensures refl, c.len.ensures, c.in_ok-copies.copies.ok) in
    let few : i.version + 1 < 2 ^ 32 = omega (arith, c.requires, ap (λ s. s.version) c.self.view_is) in
    let every : length items ≤ count = omega (arith, c.if-count-len.false, c.len-2.ensures, c.in_ok-copies.copies.ok) in
    ap (state (i.version + 1))
    (IsIndex-copied c.self.invariant c.args.from.now c.args.to.now items new mid c.leave_all-2.new.groups c.leave_all-2.new.store c.enter_all-count.result.1
    c.in_ok-copies.ensures
    (subst (λ xs. IsEntered xs contents i.numbers i.groups new mid) (take_all count items every)
    (subst (λ xs. IsEntered (take count xs) contents i.numbers i.groups new mid) c.deref.ensures.value c.enter_all-count.ensures.entered))
    (subst (λ xs. AreLeft Old xs contents mid (stored c.leave_all-2.new.store) c.leave_all-2.new.groups) c.deref-2.ensures.value c.leave_all-2.ensures.left)
    c.leave_all-2.ensures.store room few c.enter_all-count.ensures.bytes).1
    ∙ ap (λ s. applied (CopyUnder c.args.from.now c.args.to.now) (plain_state s)) c.self.view_is

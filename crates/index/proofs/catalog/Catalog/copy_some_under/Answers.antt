use Rattle.std.proofs.Common.{◌+◌, ◌<◌, ◌≡◌, ◌^◌, [], false, true, length, refl, sym, ◌∙◌, ap, subst, arith, take, Contains}
use Rattle.std.proofs.lemmas.Bool.{false≢true}
use Rattle.std.proofs.lemmas.Bool.Decides.{nat_tests}
use Rattle.std.proofs.lemmas.List.{length-take}
use Rattle.std.proofs.lemmas.List.Elements.{All-contains}
use Rattle.std.specs.BTreeMap.{btree_map_len}
use Rattle.documents.specs.declared.command.Command.TheVariants.{CopyUnder}
use Rattle.index.specs.declared.copying.Copied.{Copied}
use Rattle.index.specs.declared.copying.Leaves.TheVariants.{Old}
use Rattle.index.specs.Private.Copying.{IsCopy, IsEntered, AreLeft}
use Rattle.documents.specs.State.{state, applied}
use Rattle.index.specs.Private.Plain.{plain_state}
use Rattle.index.specs.Private.Store.{stored}
use Rattle.index.proofs.CopiedLemmas.{taken_inside}
use Rattle.index.proofs.PartLemmas.{IsIndex-part, same_after, same_without}
use Rattle.index.proofs.catalog.Catalog.copy_some_under.Goals as goal
use Rattle.index.proofs.catalog.Catalog.copy_some_under.Goals.{then-more, else-more}

pub invariant_of-self : goal.invariant_of-self
invariant_of-self c =
    let i = c.self.inside in
    let contents = stored i.store in
    let from = c.args.from.now in
    let to = c.args.to.now in
    let items = c.in-Ok.part.copies.items in
    let count = c.enter_all-count.result.0 in
    let new = c.enter_all-count.new.numbers in
    let mid = c.enter_all-count.new.groups in
    let room : btree_map_len i.numbers + length (take count items) < 2 ^ 32 =
    omega (arith, c.if-not-has_room.ensures refl, c.len.ensures, c.in-Ok.part.copies.ok, length-take count items) in
    (IsIndex-part c.self.invariant from to (take count items)
    (λ x there. All-contains (IsCopy from to i.numbers) items x c.in-Ok.ensures (taken_inside items count x there)) new mid
    c.leave_all.new.groups c.leave_all.new.store c.enter_all-count.result.1
    (subst (λ xs. IsEntered (take count xs) contents i.numbers i.groups new mid) c.deref.ensures.value c.enter_all-count.ensures.entered)
    (subst (λ xs. AreLeft Old (take count xs) contents mid (stored c.leave_all.new.store) c.leave_all.new.groups) c.deref-2.ensures.value c.leave_all.ensures.left)
    c.leave_all.ensures.store room c.enter_all-count.ensures.bytes).0

pub returns-clause-same : goal.returns-clause-same
returns-clause-same c =
    let i = c.self.inside in
    let contents = stored i.store in
    let from = c.args.from.now in
    let to = c.args.to.now in
    let items = c.in-Ok.part.copies.items in
    let count = c.enter_all-count.result.0 in
    let new = c.enter_all-count.new.numbers in
    let mid = c.enter_all-count.new.groups in
    let room : btree_map_len i.numbers + length (take count items) < 2 ^ 32 =
    omega (arith, c.if-not-has_room.ensures refl, c.len.ensures, c.in-Ok.part.copies.ok, length-take count items) in
    let entering =
    subst (λ xs. IsEntered (take count xs) contents i.numbers i.groups new mid) c.deref.ensures.value c.enter_all-count.ensures.entered in
    let each : (x : Copied) → Contains (take count items) x → IsCopy from to i.numbers x =
    λ x there. All-contains (IsCopy from to i.numbers) items x c.in-Ok.ensures (taken_inside items count x there) in
    ap (λ ds. applied (CopyUnder from to) (state i.version ds))
    (IsIndex-part c.self.invariant from to (take count items) each new mid c.leave_all.new.groups c.leave_all.new.store c.enter_all-count.result.1 entering
    (subst (λ xs. AreLeft Old (take count xs) contents mid (stored c.leave_all.new.store) c.leave_all.new.groups) c.deref-2.ensures.value c.leave_all.ensures.left)
    c.leave_all.ensures.store room c.enter_all-count.ensures.bytes).1
    ∙ ap (state (i.version + 1))
    (same_after c.self.invariant from to (take count items) each new (λ q. entering.numbers_are q) (c.if-not-are_apart.ensures refl))
    ∙ ap (λ s. applied (CopyUnder from to) (plain_state s)) c.self.view_is

pub returns-clause-none : goal.returns-clause-none
returns-clause-none c = λ no.
    let i = c.self.inside in
    let contents = stored i.store in
    let from = c.args.from.now in
    let to = c.args.to.now in
    let items = c.in-Ok.part.copies.items in
    let count = c.enter_all-count.result.0 in
    let new = c.enter_all-count.new.numbers in
    let mid = c.enter_all-count.new.groups in
    let room : btree_map_len i.numbers + length (take count items) < 2 ^ 32 =
    omega (arith, c.if-not-has_room.ensures refl, c.len.ensures, c.in-Ok.part.copies.ok, length-take count items) in
    let entering =
    subst (λ xs. IsEntered (take count xs) contents i.numbers i.groups new mid) c.deref.ensures.value c.enter_all-count.ensures.entered in
    let each : (x : Copied) → Contains (take count items) x → IsCopy from to i.numbers x =
    λ x there. All-contains (IsCopy from to i.numbers) items x c.in-Ok.ensures (taken_inside items count x there) in
    let nothing : count ≡ 0 =
    elim c.if-more.branch [
      | then-more w ↦ absurd (false≢true (sym no ∙ w.goes_on-is ∙ w.if-more.true))
      | else-more w ↦ grind (arith, nat_tests, no, w.goes_on-is)
    ] in
    ap (state i.version)
    ((IsIndex-part c.self.invariant from to (take count items) each new mid c.leave_all.new.groups c.leave_all.new.store c.enter_all-count.result.1 entering
    (subst (λ xs. AreLeft Old (take count xs) contents mid (stored c.leave_all.new.store) c.leave_all.new.groups) c.deref-2.ensures.value c.leave_all.ensures.left)
    c.leave_all.ensures.store room c.enter_all-count.ensures.bytes).1
    ∙ same_without c.self.invariant from to (take count items) each new (λ q. entering.numbers_are q) (ap (λ n. take n items) nothing))
    ∙ ap plain_state c.self.view_is

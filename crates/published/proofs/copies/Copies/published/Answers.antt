use Rattle.std.proofs.Common.{rules, ◌≡◌, [], ◌∷◌, ◌++◌, fold, sym, ap, subst, ◌∙◌}
use Rattle.published.specs.declared.shelf.Shelf.{Shelf}
use Rattle.published.specs.declared.shelf.Operation.TheVariants.{Stamp}
use Rattle.published.specs.Private.Shelf.{operated}
use Rattle.published.specs.Private.Copies.{InStep, IsAllDone, copies_of, copies_state}
use Rattle.published.proofs.ShelfLemmas.{accepted_of-stamp}
use Rattle.published.proofs.CopiesLemmas.{all_in, turned_step, exchange_turns}
use Rattle.published.proofs.copies.Copies.published.Goals as goal

pub returns-then-not-is_all_done : goal.returns-then-not-is_all_done
returns-then-not-is_all_done g c =
    let i = c.self.inside in
    let shown = i.both.desk.shown.value in
    let same : c.shelve.result.shown.value ≡ shown = search rules in
    ap (λ s. copies_of s c.bring_up_all.new.self.pending.items) same
    ∙ (ap (copies_of shown) (c.bring_up_all.ensures.pending ∙ c.in_default.ensures.ok)
    ∙ (ap (copies_state shown.front) (accepted_of-stamp shown i.log.pending.items c.again.result) ∙ c.self.view_is))

pub show_as-requires : goal.show_as-requires
show_as-requires g c =
    let i = c.self.inside in
    let shown = i.both.desk.shown.value in
    let pending = i.log.pending.items in
    let up = c.bring_up_all in
    let same : c.open-open.result.0.shown.value ≡ shown = search rules in
    let at : c.deref_mut.result.now ≡ i.both.desk.spare.value = search rules in
    let done : IsAllDone up.new.self = search rules in
    let step = up.ensures.step shown (subst (λ s. InStep shown s c.add.new.self) (sym at) (c.add.ensures.step shown i.both.desk.spare.value i.in_step)) in
    let filled : c.fill-filled.new.self ≡ up.new.spare = search rules in
    let is : c.fill-filled.new.self ≡ fold operated shown (pending ++ Stamp c.args.front.now ∷ []) =
    filled
    ∙ (all_in shown up.new.spare up.new.self done step
    ∙ ap (fold operated shown) (up.ensures.pending ∙ (c.in_default.ensures.ok ∙ ap (λ f. pending ++ Stamp f ∷ []) c.again.ensures))) in
    exchange_turns shown c.fill-filled.new.self pending c.args.front.now is _ _ _ same (c.requires.opening ∙ sym (ap (λ s. s.shown.opening) c.self.view_is))
    (c.requires.all ∙ sym (ap (λ s. s.accepted) c.self.view_is))

pub invariant_of-result-2 : goal.invariant_of-result-2
invariant_of-result-2 g c =
    let i = c.self.inside in
    let shown = i.both.desk.shown.value in
    let up = c.bring_up_all in
    let at : c.deref_mut.result.now ≡ i.both.desk.spare.value = search rules in
    let done : IsAllDone up.new.self = search rules in
    let step = up.ensures.step shown (subst (λ s. InStep shown s c.add.new.self) (sym at) (c.add.ensures.step shown i.both.desk.spare.value i.in_step)) in
    let now : c.show_as.result.shown.value ≡ up.new.spare = search rules in
    let was : c.show_as.result.spare.value ≡ shown = search rules in
    let turned = c.turned-log in (
      subst (λ (z : Shelf × Shelf). InStep z.0 z.1 turned.result) (λ k. (sym now k, sym was k))
          (turned_step shown up.new.spare up.new.self turned.result done step turned.ensures.behind turned.ensures.pending turned.ensures.ahead),
      tt,
    )

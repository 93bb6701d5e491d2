use Rattle.std.proofs.Common.{rules, ◌≡◌, ◌∙◌, ◌||◌, ◌&&◌, not, ℕ, List, length, sym, ap, subst, arith}
use Rattle.documents.specs.declared.command.Command.TheVariants.{CopyUnder}
use Rattle.published.specs.declared.shelf.Update.TheVariants as update
use Rattle.published.specs.Private.Shelf.{command_of}
use Rattle.published.specs.Private.DeskParts.{Begins}
use Rattle.published.specs.Desk.{HasRoom}
use Rattle.published.specs.Private.Names.{has_name, is_one_of, new_copies, names_under}
use Rattle.published.proofs.CopyNames.{new-free, taken-back}
use Rattle.published.proofs.DeskLemmas.{begins_still, counted_one_more, named_now, named_same, desk_with, noted_copy_under}
use Rattle.published.proofs.desk.Desk.accept_copy_under.Goals as goal

pub add_all-requires : goal.add_all-requires
add_all-requires c = λ name e.
    new-free c.self.inside.names c.args.from.now c.args.to.now c.deref.result.now c.deref-2.result.now (c.deref-2.ensures.value ∙ c.in_ok-copies.ensures) name e

pub invariant_of-self-inside : goal.invariant_of-self-inside
invariant_of-self-inside c =
    let i = c.self.inside in
    let named = λ (name : List ℕ). c.in_err-add_all.ensures.err name ∙ i.named name in
    (i.opening, (i.history, (i.begins, (i.counted, (i.room, (i.limited, (named, tt)))))))

pub overflow_add-self : goal.overflow_add-self
overflow_add-self c =
    let room = subst HasRoom (sym c.self.view_is) c.requires in
    omega (arith, room, c.self.inside.counted, c.self.inside.limited)

pub invariant_of-self-inside-in-Ok : goal.invariant_of-self-inside-in-Ok
invariant_of-self-inside-in-Ok c =
    let i = c.self.inside in
    let u = update.CopyUnder c.in_ok-own.own c.in_ok-other.other in
    let more = c.in-Ok.ensures.ok in
    let room = subst HasRoom (sym c.self.view_is) c.requires in
    let are : c.deref-2.result.now ≡ new_copies i.names c.args.from.now c.args.to.now (names_under i.names c.args.from.now) =
    c.deref-2.ensures.value ∙ c.in_ok-copies.ensures ∙ ap (new_copies i.names c.args.from.now c.args.to.now) (c.deref.ensures.value ∙ c.in_ok-sources.ensures) in
    let noted =
    noted_copy_under i.copies.accepted i.names c.add_all.new.self c.args.from.now c.in_ok-own.own c.args.to.now c.in_ok-other.other c.in_ok-own.ensures
    c.in_ok-other.ensures i.named
    (λ name. c.in_ok-add_all.ensures.ok name ∙ ap (λ xs. is_one_of xs name || has_name i.names name) are) in
    let begins = begins_still i.copies c.accept.new.self u more i.front.commands i.begins in
    let counted = counted_one_more i.copies c.accept.new.self u more i.accepted i.counted in
    let named = named_now i.copies c.accept.new.self u more c.add_all.new.self noted in
    (search rules, (i.history, (begins, (counted, (omega (arith, room, i.counted), (i.limited, (named, tt)))))))

pub returns-in-Ok-clause-ok : goal.returns-in-Ok-clause-ok
returns-in-Ok-clause-ok c =
    let i = c.self.inside in
    let u = update.CopyUnder c.in_ok-own.own c.in_ok-other.other in
    let is : command_of u ≡ CopyUnder c.args.from.now c.args.to.now = cc (c.in_ok-own.ensures, c.in_ok-other.ensures) in
    desk_with i.copies c.accept.new.self u c.in-Ok.ensures.ok i.front i.limit (CopyUnder c.args.from.now c.args.to.now) c.args.self.now c.self.view_is is

pub invariant_of-self-inside-in-Err : goal.invariant_of-self-inside-in-Err
invariant_of-self-inside-in-Err c =
    let i = c.self.inside in
    let same = c.in-Err.ensures.err in
    let free = λ (name : List ℕ).
    new-free i.names c.args.from.now c.args.to.now c.deref.result.now c.deref-2.result.now (c.deref-2.ensures.value ∙ c.in_ok-copies.ensures) name in
    let named = λ (name : List ℕ).
    c.remove_all.ensures name
    ∙ ap (λ xs. not (is_one_of xs name) && has_name c.add_all.new.self name) (c.deref-in-Err.ensures.value ∙ sym c.deref-2.ensures.value)
    ∙ ap (λ t. not (is_one_of c.deref-2.result.now name) && t) (c.in_ok-add_all.ensures.ok name)
    ∙ taken-back (is_one_of c.deref-2.result.now name) (has_name i.names name) (free name)
    ∙ i.named name in (
      ap (λ x. x.shown.opening) same ∙ i.opening,
      (
        i.history,
        (
          subst (λ x. Begins i.front.commands x.accepted) (sym same) i.begins,
          (
            i.counted ∙ ap (λ x. length x.accepted) (sym same),
            (i.room, (i.limited, (named_same c.remove_all.new.self i.copies.accepted c.accept.new.self.accepted (ap (λ x. x.accepted) same) named, tt))),
          ),
        ),
      ),
    )

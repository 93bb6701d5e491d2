use Rattle.std.proofs.Common.{rules, ◌≡◌, ◌∙◌, ◌&&◌, not, ℕ, List, sym, subst, arith}
use Rattle.documents.specs.declared.command.Command.TheVariants.{RemoveUnder}
use Rattle.published.specs.declared.shelf.Update.TheVariants as update
use Rattle.published.specs.Private.Shelf.{command_of}
use Rattle.prefixes.specs.Under.{begins_with}
use Rattle.published.specs.Desk.{HasRoom}
use Rattle.published.specs.Private.Names.{has_name}
use Rattle.published.proofs.UnderNames.{left_out}
use Rattle.published.proofs.DeskLemmas.{begins_still, counted_one_more, named_now, desk_with, noted_remove_under}
use Rattle.published.proofs.desk.Desk.accept_remove_under.Goals as goal

pub overflow_add-self : goal.overflow_add-self
overflow_add-self c =
    let room = subst HasRoom (sym c.self.view_is) c.requires in
    omega (arith, room, c.self.inside.counted, c.self.inside.limited)

pub invariant_of-self-inside-2 : goal.invariant_of-self-inside-2
invariant_of-self-inside-2 c =
    let i = c.self.inside in
    let u = update.RemoveUnder c.in_ok-own.own in
    let more = c.in_ok-accept.ensures.ok in
    let room = subst HasRoom (sym c.self.view_is) c.requires in
    let left : (name : List ℕ) → has_name c.remove_all.new.self name ≡ (not (begins_with c.args.prefix.now name) && has_name i.names name) =
    λ name. left_out c.args.prefix.now name i.names.names.keys _ _ (c.deref.ensures.value ∙ c.in_ok-gone.ensures) (c.remove_all.ensures name) in
    let noted = noted_remove_under i.copies.accepted i.names c.remove_all.new.self c.args.prefix.now c.in_ok-own.own c.in_ok-own.ensures i.named left in
    let begins = begins_still i.copies c.accept.new.self u more i.front.commands i.begins in
    let counted = counted_one_more i.copies c.accept.new.self u more i.accepted i.counted in
    let named = named_now i.copies c.accept.new.self u more c.remove_all.new.self noted in
    (search rules, (i.history, (begins, (counted, (omega (arith, room, i.counted), (i.limited, (named, tt)))))))

pub returns-clause-ok : goal.returns-clause-ok
returns-clause-ok c =
    let i = c.self.inside in
    let u = update.RemoveUnder c.in_ok-own.own in
    let is : command_of u ≡ RemoveUnder c.args.prefix.now = cc (c.in_ok-own.ensures) in
    desk_with i.copies c.accept.new.self u c.in_ok-accept.ensures.ok i.front i.limit (RemoveUnder c.args.prefix.now) c.args.self.now c.self.view_is is

use Rattle.std.proofs.Common.{rules, ◌≡◌, sym, subst, arith}
use Rattle.documents.specs.declared.command.Command.TheVariants.{Remove}
use Rattle.published.specs.declared.shelf.Update.TheVariants as update
use Rattle.published.specs.Private.Shelf.{command_of}
use Rattle.published.specs.Desk.{HasRoom}
use Rattle.published.proofs.DeskLemmas.{begins_still, counted_one_more, named_now, desk_with, noted_remove}
use Rattle.published.proofs.desk.Desk.accept_remove.Goals as goal

pub overflow_add-self : goal.overflow_add-self
overflow_add-self c =
    let room = subst HasRoom (sym c.self.view_is) c.requires in
    omega (arith, room, c.self.inside.counted, c.self.inside.limited)

pub invariant_of-self-inside-2 : goal.invariant_of-self-inside-2
invariant_of-self-inside-2 c =
    let i = c.self.inside in
    let u = update.Remove c.in_ok-own.own in
    let more = c.in_ok-accept.ensures.ok in
    let room = subst HasRoom (sym c.self.view_is) c.requires in
    let noted = noted_remove i.copies.accepted i.names c.remove.new.self c.args.name.now c.in_ok-own.own c.in_ok-own.ensures i.named c.remove.ensures in
    let begins = begins_still i.copies c.accept.new.self u more i.front.commands i.begins in
    let counted = counted_one_more i.copies c.accept.new.self u more i.accepted i.counted in
    let named = named_now i.copies c.accept.new.self u more c.remove.new.self noted in
    (search rules, (i.history, (begins, (counted, (omega (arith, room, i.counted), (i.limited, (named, tt)))))))

pub returns-clause-ok : goal.returns-clause-ok
returns-clause-ok c =
    let i = c.self.inside in
    let u = update.Remove c.in_ok-own.own in
    let is : command_of u ≡ Remove c.args.name.now = cc (c.in_ok-own.ensures) in
    desk_with i.copies c.accept.new.self u c.in_ok-accept.ensures.ok i.front i.limit (Remove c.args.name.now) c.args.self.now c.self.view_is is

use Rattle.std.proofs.Common.{rules, ◌≡◌, sym, subst, arith}
use Rattle.documents.specs.declared.command.Command.TheVariants.{Put}
use Rattle.published.specs.declared.shelf.Update.TheVariants as update
use Rattle.published.specs.Private.Shelf.{command_of}
use Rattle.published.specs.Desk.{HasRoom}
use Rattle.published.proofs.DeskLemmas.{begins_still, counted_one_more, named_now, desk_with, noted_put}
use Rattle.published.proofs.desk.Desk.accept_put.Goals as goal

pub invariant_of-self-inside-in-Ok-accept_put : goal.invariant_of-self-inside-in-Ok-accept_put
invariant_of-self-inside-in-Ok-accept_put c =
    let i = c.self.inside in
    let u = update.Put c.in-Ok.own c.args.body in
    let more = c.in-Ok-accept_put.ensures.ok in
    let room = subst HasRoom (sym c.self.view_is) c.requires in
    let noted = noted_put i.copies.accepted i.names c.add.new.self c.args.name.now c.in-Ok.own c.args.body c.in-Ok.ensures i.named c.in-Ok-add.ensures.ok in
    let begins = begins_still i.copies c.accept_put.new.self u more i.front.commands i.begins in
    let counted = counted_one_more i.copies c.accept_put.new.self u more i.accepted i.counted in
    let named = named_now i.copies c.accept_put.new.self u more c.add.new.self noted in
    (search rules, (i.history, (begins, (counted, (omega (arith, room, i.counted), (i.limited, (named, tt)))))))

pub returns-in-Ok-accept_put-clause-ok : goal.returns-in-Ok-accept_put-clause-ok
returns-in-Ok-accept_put-clause-ok c =
    let i = c.self.inside in
    let u = update.Put c.in-Ok.own c.args.body in
    let is : command_of u ≡ Put c.args.name.now c.args.body = cc (c.in-Ok.ensures) in
    desk_with i.copies c.accept_put.new.self u c.in-Ok-accept_put.ensures.ok i.front i.limit (Put c.args.name.now c.args.body) c.args.self.now c.self.view_is is

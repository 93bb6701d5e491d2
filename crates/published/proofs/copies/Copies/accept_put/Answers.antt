use Rattle.published.specs.declared.shelf.Update.TheVariants as update
use Rattle.published.proofs.CopiesLemmas.{one_more}
use Rattle.published.proofs.copies.Copies.accept_put.Goals as goal

pub returns-clause-ok : goal.returns-clause-ok
returns-clause-ok c =
    let i = c.self.inside in
    one_more i.both.desk.shown.value i.log.pending.items c.add_put.new.self.pending.items (update.Put c.args.name c.args.body) c.args.self.now c.self.view_is
    c.in_default.ensures.ok

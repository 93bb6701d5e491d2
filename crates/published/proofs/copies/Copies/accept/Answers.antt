use Rattle.published.proofs.CopiesLemmas.{one_more}
use Rattle.published.proofs.copies.Copies.accept.Goals as goal

pub returns-clause-ok : goal.returns-clause-ok
returns-clause-ok c =
    let i = c.self.inside in
    one_more i.both.desk.shown.value i.log.pending.items c.add.new.self.pending.items c.args.update c.args.self.now c.self.view_is c.in_ok-add.ensures.ok

use Rattle.std.proofs.Common.{drop}
use Rattle.desk.proofs.PendingLemmas.{behind, fits}
use Rattle.desk.proofs.pending.Pending.settle.Goals as goal

pub after-requires : goal.after-requires
after-requires c =
    let p = c.args.self.now in
    fits p.draft (drop p.done p.updates.items) _ (behind p.updates.items c.deref.result.now p.done c.deref.ensures.value) c.requires

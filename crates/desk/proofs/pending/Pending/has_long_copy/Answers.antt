use Rattle.std.proofs.Common.{ap, drop, ◌∙◌}
use Rattle.std.specs.List.{list_any}
use Rattle.desk.specs.Private.Puts.{is_long, puts}
use Rattle.desk.proofs.PendingLemmas.{behind}
use Rattle.desk.proofs.PutLemmas.{found_behind, found_there, long-puts}
use Rattle.desk.proofs.pending.Pending.has_long_copy.Goals as goal

pub returns-then-has_long_copy : goal.returns-then-has_long_copy
returns-then-has_long_copy c =
    let p = c.args.self.now in
    found_there _ _ _ _ c.has_long_copy.ensures c.if-has_long_copy.true (long-puts c.args.most c.args.from.now c.args.to.now (drop p.done p.updates.items) p.draft p.puts)

pub returns-else-has_long_copy : goal.returns-else-has_long_copy
returns-else-has_long_copy c =
    let p = c.args.self.now in
    found_behind _ _ _ _ _ c.has_long_copy.ensures c.if-has_long_copy.false (long-puts c.args.most c.args.from.now c.args.to.now (drop p.done p.updates.items) p.draft p.puts)
    (c.is_put_long.ensures ∙ ap (list_any (puts (is_long c.args.most c.args.from.now c.args.to.now))) (behind p.updates.items c.deref.result.now p.done c.deref.ensures.value))

use Rattle.std.proofs.Common.{ap, drop, ◌∙◌}
use Rattle.std.specs.List.{list_any}
use Rattle.prefixes.specs.Under.{begins_with}
use Rattle.desk.specs.Private.Puts.{puts}
use Rattle.desk.proofs.PendingLemmas.{behind}
use Rattle.desk.proofs.PutLemmas.{found_behind, found_there, under-puts}
use Rattle.desk.proofs.pending.Pending.has_under.Goals as goal

pub returns-then-has_under : goal.returns-then-has_under
returns-then-has_under c =
    let p = c.args.self.now in
    found_there _ _ _ _ c.has_under.ensures c.if-has_under.true (under-puts c.args.prefix.now (drop p.done p.updates.items) p.draft p.puts)

pub returns-else-has_under : goal.returns-else-has_under
returns-else-has_under c =
    let p = c.args.self.now in
    found_behind _ _ _ _ _ c.has_under.ensures c.if-has_under.false (under-puts c.args.prefix.now (drop p.done p.updates.items) p.draft p.puts)
    (c.is_put_under.ensures ∙ ap (list_any (puts (begins_with c.args.prefix.now))) (behind p.updates.items c.deref.result.now p.done c.deref.ensures.value))

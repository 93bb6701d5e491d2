use Rattle.std.proofs.Common.{ap, drop, ◌∙◌}
use Rattle.std.specs.List.{list_any}
use Rattle.std.specs.Prelude.{bytes_eq}
use Rattle.desk.specs.Private.Puts.{puts}
use Rattle.desk.proofs.PendingLemmas.{behind}
use Rattle.desk.proofs.PutLemmas.{found_behind, found_there, taken-puts}
use Rattle.desk.proofs.pending.Pending.has.Goals as goal

pub returns-then-has : goal.returns-then-has
returns-then-has c =
    let p = c.args.self.now in
    found_there _ _ _ _ c.has.ensures c.if-has.true (taken-puts c.args.name.now (drop p.done p.updates.items) p.draft p.puts)

pub returns-else-has : goal.returns-else-has
returns-else-has c =
    let p = c.args.self.now in
    found_behind _ _ _ _ _ c.has.ensures c.if-has.false (taken-puts c.args.name.now (drop p.done p.updates.items) p.draft p.puts)
    (c.is_put.ensures ∙ ap (list_any (puts (λ other. bytes_eq other c.args.name.now))) (behind p.updates.items c.deref.result.now p.done c.deref.ensures.value))

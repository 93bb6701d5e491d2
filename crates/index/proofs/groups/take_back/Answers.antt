use Rattle.std.proofs.Common.{sym, rules}
use Rattle.index.proofs.GroupLemmas.{leaves-entry}
use Rattle.index.proofs.groups.take_back.Goals as goal

pub returns-in-Some : goal.returns-in-Some
returns-in-Some c =
    let entry = c.remove.new.self in
    leaves-entry c.args.number c.args.groups.now (c.get_mut.follows.lender entry) entry ((c.get_mut.follows.holds entry).3 (search rules)).0
    c.args.name.now c.in-Some.names.now (sym c.in-Some.ensures.value) c.remove.ensures.updates.0 c.remove.ensures.ordered

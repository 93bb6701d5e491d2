use Rattle.std.proofs.Common.{sym, rules}
use Rattle.index.proofs.CopyingLemmas.{again-removed, again-written}
use Rattle.index.proofs.copying.restore_one.Goals as goal

pub returns-in_default-clause-numbers : goal.returns-in_default-clause-numbers
returns-in_default-clause-numbers c =
    again-removed c.args.numbers.now c.remove.new.self c.args.copy.now.name c.args.copy.now.old c.in_default.is c.remove.ensures.updates.0

pub returns-in-Some-get_mut-clause-numbers : goal.returns-in-Some-get_mut-clause-numbers
returns-in-Some-get_mut-clause-numbers c =
    again-written c.args.numbers.now (c.get_mut.follows.lender c.in-Some.old) c.args.copy.now.name c.args.copy.now.old c.in-Some.old
    c.in-Some-get_mut.number.now c.in-Some.is c.in-Some-get_mut.ensures.value
    ((c.get_mut.follows.holds c.in-Some.old).3 (search rules)).0

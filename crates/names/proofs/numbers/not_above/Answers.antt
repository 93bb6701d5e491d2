use Rattle.std.proofs.Common.{◌+◌, Ok, Err, subst}
use Rattle.names.proofs.NumberLemmas.{Searched, searched_for, rising-take, without_high, above_found}
use Rattle.names.proofs.numbers.not_above.Goals as goal

pub returns-in-Ok-clause-rising : goal.returns-in-Ok-clause-rising
returns-in-Ok-clause-rising c = rising-take (c.in-Ok.at + 1) c.args.numbers.now c.requires

pub returns-in-Ok-clause-same : goal.returns-in-Ok-clause-same
returns-in-Ok-clause-same c = λ n order.
    let ns = c.args.numbers.now in
    let at = c.in-Ok.at in
    let found : Searched ns c.args.high (Ok at) =
    subst (Searched ns c.args.high) c.in-Ok.is (searched_for ns c.args.high c.binary_search.result c.requires c.binary_search.ensures.position) in
    without_high ns (at + 1) c.args.high n (above_found ns c.args.high at c.requires found) order

pub returns-in-Err-clause-rising : goal.returns-in-Err-clause-rising
returns-in-Err-clause-rising c = rising-take c.in-Err.at c.args.numbers.now c.requires

pub returns-in-Err-clause-same : goal.returns-in-Err-clause-same
returns-in-Err-clause-same c = λ n order.
    let ns = c.args.numbers.now in
    let at = c.in-Err.at in
    let absent : Searched ns c.args.high (Err at) =
    subst (Searched ns c.args.high) c.in-Err.is (searched_for ns c.args.high c.binary_search.result c.requires c.binary_search.ensures.position) in
    without_high ns at c.args.high n absent.2 order

use Rattle.std.proofs.lemmas.Result.{IfOk-weaker}
use Rattle.search.proofs.taken.fronted.Goals as goal

pub returns-in-Some-clause-fronted : goal.returns-in-Some-clause-fronted
returns-in-Some-clause-fronted g c =
    let named = rw c.in-Some.is at c.in_ok-front.ensures.some in
    IfOk-weaker c.candidates.result _ _ (λ found are. record { fronts = c.in-Some.front; named = named; are = are }) c.candidates.ensures.candidates

pub returns-in-None-clause-fronted : goal.returns-in-None-clause-fronted
returns-in-None-clause-fronted g c =
    let named = rw c.in-None.is at c.in_ok-front.ensures.none in
    IfOk-weaker c.candidates-in-None.result _ _ (λ found are. record { fronts = c.args.prepared.now.under; named = named; are = are })
    c.candidates-in-None.ensures.candidates

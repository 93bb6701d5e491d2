use Rattle.std.proofs.Common.{◌++◌, ap, ◌∙◌, subst, arith}
use Rattle.std.proofs.lemmas.List.{append-nil}
use Rattle.prepare.specs.Prepared.{request_of}
use Rattle.search.specs.Taken.{IsTakenAmong}
use Rattle.search.proofs.taken.take_watched.Goals as goal

pub returns-clause-taken : goal.returns-clause-taken
returns-clause-taken g c =
    let taken = c.in_ok-taken.taken in
    let up_to = c.in_ok-taken.ensures.taken in
    subst (λ ds. IsTakenAmong ds (g.C.Corpus.state c.args.corpus.now) (request_of c.args.prepared.now) taken)
    (ap (λ ds. taken.candidates.items ++ ds) (up_to.all_or_most (omega (arith, taken.candidates.ok, taken.candidates.small))) ∙ append-nil taken.candidates.items)
    up_to.is

use Rattle.std.proofs.Common.{arith}
use Rattle.std.proofs.lemmas.Result.{IfOk-weaker}
use Rattle.search.specs.Private.Seekers.{IsTried}
use Rattle.search.proofs.SeekerLemmas.{finder_in}
use Rattle.search.proofs.seeker.Seeker.try_starts.Goals as goal

pub returns-in-None-clause-tried : goal.returns-in-None-clause-tried
unfolding IsTried
returns-in-None-clause-tried g c = λ tree seeks. (omega arith, λ start end s. s.begins)

pub returns-then-line-longest-clause-tried : goal.returns-then-line-longest-clause-tried
unfolding IsTried
returns-then-line-longest-clause-tried g c = λ tree seeks. (omega arith, λ start end s. s.begins)

pub try_each-requires-clause-simulation : goal.try_each-requires-clause-simulation
try_each-requires-clause-simulation g c = (c.requires.seeks.0, c.requires.seeks.1.simulation)

pub returns-else-line-longest-clause-tried : goal.returns-else-line-longest-clause-tried
returns-else-line-longest-clause-tried g c =
    IfOk-weaker c.try_each.result _ _ (λ tried is tree seeks.
    is tree (finder_in tree c.args.self.now c.in-Some.finder c.in-Some.is seeks) seeks.simulation) c.try_each.ensures.tried

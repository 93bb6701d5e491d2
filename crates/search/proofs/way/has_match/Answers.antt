use Rattle.ere.specs.Tree.{form}
use Rattle.engine.proofs.SameLineLemmas.{line_finder_kept}
use Rattle.search.proofs.WayLemmas.{finder_of, finds_by, simulation_of, finds_by_simulation}
use Rattle.search.proofs.way.has_match.Goals as goal

pub returns-else-line-longest-clause-way : goal.returns-else-line-longest-clause-way
returns-else-line-longest-clause-way g c =
    finds_by (form c.args.tree.now) c.matches.new.self
    (line_finder_kept (form c.args.tree.now) c.in-FromMatchToMatch.finder c.matches.new.self c.matches.ensures.same
    (finder_of (form c.args.tree.now) c.args.way.now c.in-FromMatchToMatch.finder c.in-FromMatchToMatch.is c.requires.way))

pub returns-else-line-longest-clause-found : goal.returns-else-line-longest-clause-found
returns-else-line-longest-clause-found g c =
    c.matches.ensures.found (form c.args.tree.now)
    (finder_of (form c.args.tree.now) c.args.way.now c.in-FromMatchToMatch.finder c.in-FromMatchToMatch.is c.requires.way)

pub returns-in_ok-matches-in-Simulation-clause-way : goal.returns-in_ok-matches-in-Simulation-clause-way
returns-in_ok-matches-in-Simulation-clause-way g c =
    let was = simulation_of (form c.args.tree.now) c.args.way.now c.in-Simulation.simulation c.in-Simulation.is c.requires.way in
    finds_by_simulation (form c.args.tree.now) c.matches-in-Simulation.new.self
    (c.matches-in-Simulation.ensures.same (form c.args.tree.now) was.0) was.1

pub returns-in_err-matches-in-Simulation-clause-way : goal.returns-in_err-matches-in-Simulation-clause-way
returns-in_err-matches-in-Simulation-clause-way g c =
    let was = simulation_of (form c.args.tree.now) c.args.way.now c.in-Simulation.simulation c.in-Simulation.is c.requires.way in
    finds_by_simulation (form c.args.tree.now) c.matches-in-Simulation.new.self
    (c.matches-in-Simulation.ensures.same (form c.args.tree.now) was.0) was.1

pub returns-in_ok-matches-in-Simulation-clause-found : goal.returns-in_ok-matches-in-Simulation-clause-found
returns-in_ok-matches-in-Simulation-clause-found g c =
    c.in_ok-matches-in-Simulation.ensures.found (form c.args.tree.now)
    (simulation_of (form c.args.tree.now) c.args.way.now c.in-Simulation.simulation c.in-Simulation.is c.requires.way).0

pub matches-requires-in-Simulation : goal.matches-requires-in-Simulation
matches-requires-in-Simulation g c = (
  form c.args.tree.now,
  (simulation_of (form c.args.tree.now) c.args.way.now c.in-Simulation.simulation c.in-Simulation.is c.requires.way).0,
)

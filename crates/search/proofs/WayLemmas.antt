-- The ways of searching.
use Rattle.std.proofs.Common.{◌≡◌, Option, Some, IfSome, subst}
use Rattle.ere.specs.Tree.{Tree}
use Rattle.engine.specs.Patterns.{IsLineFinderOf}
use Rattle.matcher.specs.Steps.{IsQuick}
use Rattle.simulation.specs.Simulations.{IsSimulationOf}
use Rattle.engine.specs.declared.finding.Finder.{Finder}
use Rattle.engine.specs.declared.compiled.Compiled.{Compiled}
use Rattle.simulation.specs.declared.simulation.Simulation.{Simulation as SimulationValue}
use Rattle.search.specs.declared.way.Way.{Way}
use Rattle.search.specs.declared.way.Way.TheVariants.{FromMatchToMatch, Matcher, Simulation}
use Rattle.search.specs.Private.Ways.{Finds}

pub finder_of : (tree : Tree) (way : Way) (finder : Finder) → way ≡ FromMatchToMatch finder → Finds tree way → IsLineFinderOf tree finder
unfolding Finds
finder_of tree way finder is finds = subst (Finds tree) is finds

pub finds_by : (tree : Tree) (finder : Finder) → IsLineFinderOf tree finder → Finds tree (FromMatchToMatch finder)
unfolding Finds
finds_by tree finder stands = stands

pub finds_by_matcher : (tree : Tree) → IsQuick tree → Finds tree Matcher
unfolding Finds
finds_by_matcher tree quick = quick

pub simulation_of : (tree : Tree) (way : Way) (simulation : SimulationValue) → way ≡ Simulation simulation → Finds tree way
    → IsSimulationOf tree simulation × (IsQuick tree → ⊥)
unfolding Finds
simulation_of tree way simulation is finds = subst (Finds tree) is finds

pub finds_by_simulation : (tree : Tree) (simulation : SimulationValue) → IsSimulationOf tree simulation → (IsQuick tree → ⊥)
    → Finds tree (Simulation simulation)
unfolding Finds
finds_by_simulation tree simulation is slow = (is, slow)

pub compiled_from : (P : Compiled → Type 0) (o : Option Compiled) (compiled : Compiled) → o ≡ Some compiled → IfSome o P → P compiled
compiled_from P o compiled is from = subst (λ x. IfSome x P) is from

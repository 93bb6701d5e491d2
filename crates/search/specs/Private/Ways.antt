-- The ways in which lines that contain a match of a tree are found, and which of them is taken.
use Rattle.std.specs.Prelude.{ℕ, IsTrue, ◌+◌, ◌<◌, ◌≤◌, List, length, map, sum, take}
use Rattle.ere.specs.Tree.{Tree}
use Rattle.engine.specs.Patterns.{IsLineFinderOf}
use Rattle.matcher.specs.Steps.{IsQuick}
use Rattle.simulation.specs.Simulations.{IsSimulationOf}
use Rattle.documents.specs.declared.document.SharedDocument.{SharedDocument}
use Rattle.views.specs.declared.shown.FoundBy.{FoundBy}
use Rattle.views.specs.declared.shown.FoundBy.TheVariants as by
use Rattle.prepare.specs.Pattern.{Pattern}
use Rattle.search.specs.declared.way.Way.{Way}
use Rattle.search.specs.declared.way.Way.TheVariants.{FromMatchToMatch, Matcher, Simulation}

-- The way is for the tree: the engine has its pattern compiled, the matcher is taken only if the tree is quick, and the simulation
-- only if it is not.
unfoldable pub Finds : Tree → Way → Type 0
Finds tree (FromMatchToMatch finder) = IsLineFinderOf tree finder
Finds tree Matcher = IsQuick tree
Finds tree (Simulation simulation) = IsSimulationOf tree simulation × (IsQuick tree → ⊥)

abbrev pub found_by : Way → FoundBy
found_by (FromMatchToMatch finder) = by.Engine
found_by Matcher = by.Matcher
found_by (Simulation simulation) = by.Simulation

-- the most bytes of bodies that are looked at line by line before a pattern is compiled
abbrev pub byte_limit : ℕ
byte_limit = 8192

-- the bytes of the documents' bodies
abbrev pub bytes_in : List SharedDocument → ℕ
bytes_in documents = sum (map (λ d. length d.held) documents)

-- How many documents, from the first on, go line by line: none for a tree that is not quick, and for any other tree as many as
-- fit in the limit on bytes together.
pub record AreFew (tree : Tree) (documents : List SharedDocument) (few : ℕ) : Type 0 where
  pub some : few ≤ length documents
  pub quick : 0 < few → IsQuick tree
  pub within : bytes_in (take few documents) ≤ byte_limit
  pub most : IsQuick tree → few < length documents → byte_limit < bytes_in (take (few + 1) documents)

-- The document's name is asked for by what it begins with.
abbrev pub IsBegun : Pattern → SharedDocument → Type 0
IsBegun pattern document = IsTrue (pattern.within document.name)

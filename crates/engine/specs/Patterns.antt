-- Which trees a compiled pattern, and a finder made from one, stand for.
use Rattle.regex_meta.specs.Programs.{pattern_of}
use Rattle.ere.specs.Tree.{Tree}
use Rattle.engine.specs.Translation.{StandsFor}
use Rattle.engine.specs.SameLines.{HaveSameLines}
use Rattle.engine.specs.declared.compiled.Compiled.{Compiled}
use Rattle.engine.specs.declared.finding.Finder.{Finder}

abbrev pub IsCompiledFrom : Tree → Compiled → Type 0
IsCompiledFrom tree compiled = StandsFor tree (pattern_of compiled.program)

abbrev pub IsFinderOf : Tree → Finder → Type 0
IsFinderOf tree finder = StandsFor tree (pattern_of finder.searcher.program.now)

-- The lines with a match of the tree are those of the tree that it is compiled from.
pub record IsCompiledForLines (tree : Tree) (compiled : Compiled) : Type 0 where
  pub other : Tree
  pub same : HaveSameLines tree other
  pub from : IsCompiledFrom other compiled

pub record IsLineFinderOf (tree : Tree) (finder : Finder) : Type 0 where
  pub other : Tree
  pub same : HaveSameLines tree other
  pub of : IsFinderOf other finder

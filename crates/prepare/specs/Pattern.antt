-- What a search asks for: which lines, and in documents of which names.
use Rattle.std.specs.Prelude.{◌≡◌, List, [], ◌∷◌, ℕ, Bool, false, true, All, IsTrue, MatchBool}
use Rattle.ere.specs.declared.case.Case.{Case}
use Rattle.ere.specs.declared.case.Case.TheVariants.{Exact}
use Rattle.ere.specs.Language.{ContainsMatch}
use Rattle.ere.specs.Tree.{Tree}
use Rattle.ere.specs.Limits.{HasNoTree, IsTreeOf}
use Rattle.ere.specs.Literal.{NamesTextFault}
use Rattle.ere.specs.declared.error.EreError.{EreError}

-- a tree, and whether it is asked for texts without a match of it
pub record Test : Type 0 where
  pub tree : Tree
  pub inverted : Bool

-- The text contains a match of the tree or, if the test is inverted, it contains none.
abbrev pub Passes : Test → List ℕ → Type 0
Passes test text = MatchBool test.inverted (ContainsMatch test.tree text → ⊥) (ContainsMatch test.tree text)

-- The test of lines, those of the names of documents, and whether a name is asked for by what it begins with.
pub record Pattern : Type 0 where
  pub line : Test
  pub names : List Test
  pub within : List ℕ → Bool

-- Documents of this name are searched: it passes all tests of names, and is asked for by what it begins with.
pub record Admits (pattern : Pattern) (name : List ℕ) : Type 0 where
  pub passes : All (λ test. Passes test name) pattern.names
  pub within : IsTrue (pattern.within name)

-- every name
abbrev pub any_name : List ℕ → Bool
any_name name = true

-- texts with a match of the tree
abbrev pub with_match : Tree → Test
with_match tree = record { tree = tree; inverted = false }

-- the lines with a match of the tree that a text spells, in documents with any name
pub record IsPatternOf (case : Case) (text : List ℕ) (pattern : Pattern) : Type 0 where
  pub tree : Tree
  pub spelled : IsTreeOf case text tree
  pub line : pattern.line ≡ with_match tree
  pub every_name : pattern.names ≡ []
  pub within : pattern.within ≡ any_name

-- The same in documents whose names contain a match of the tree that `name_text` spells, in which the case of letters
-- always counts.
pub record IsPatternWithin (case : Case) (name_text text : List ℕ) (pattern : Pattern) : Type 0 where
  pub tree : Tree
  pub spelled : IsTreeOf case text tree
  pub name_tree : Tree
  pub name_spelled : IsTreeOf Exact name_text name_tree
  pub line : pattern.line ≡ with_match tree
  pub names : pattern.names ≡ with_match name_tree ∷ []
  pub within : pattern.within ≡ any_name

-- the text has a tree
abbrev pub HasTree : Case → List ℕ → Type 0
HasTree case text = (tree : Tree) × IsTreeOf case text tree

-- The text has no tree. If it is too long for a pattern or has a bad byte, the fault says so.
abbrev pub IsTreeFault : Case → List ℕ → EreError → Type 0
IsTreeFault case text fault = HasNoTree case text × NamesTextFault text fault

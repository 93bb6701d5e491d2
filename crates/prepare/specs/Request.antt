-- What a search asks for: a pattern, and what is shown of the lines that it finds.
use Rattle.std.specs.Prelude.{◌≡◌, ℕ, zero, suc, ◌&&◌, Bool, not, false, List, [], ◌∷◌, Option, Some, None, if◌then◌else◌, take}
use Rattle.std.specs.Prelude.{MatchBool, slice_get}
use Rattle.std.specs.List.{All}
use Rattle.ere.specs.Edges.{line_tree, word_tree, IsSizeFault}
use Rattle.ere.specs.Limits.{IsTreeOf, IsWithinLimits}
use Rattle.ere.specs.Literal.{IsPatternText, literal_tree, NamesTextFault}
use Rattle.ere.specs.Tree.{Tree}
use Rattle.ere.specs.declared.case.Case.{Case}
use Rattle.ere.specs.declared.error.EreError.{EreError}
use Rattle.prefixes.specs.Under.{is_within}
use Rattle.request.specs.Find.{NameTest, Options}
use Rattle.request.specs.declared.options.View.{View}
use Rattle.request.specs.declared.options.View.TheVariants as view
use Rattle.prepare.specs.Pattern.{IsTreeFault, Pattern, Test}

-- word: if only whole words count, the tree that they are words of; the pattern's tree has their edges too.
-- limit: the most lines that are shown, or names where names are shown. zero: whether a zero byte comes after each name.
pub record Request : Type 0 where
  pub pattern : Pattern
  pub word : Option Tree
  pub view : View
  pub limit : Option ℕ
  pub zero : Bool

-- all lines that a pattern asks for
abbrev pub all_lines_of : Pattern → Request
all_lines_of pattern = record { pattern = pattern; word = None; view = view.Lines; limit = None; zero = false }

-- the text is that of a pattern with this tree or, if it is literal, one in which each byte stands for itself
abbrev pub IsReadAs : Bool → Case → List ℕ → Tree → Type 0
IsReadAs literal case text tree = MatchBool literal (IsPatternText text × (tree ≡ literal_tree case text)) (IsTreeOf case text tree)

-- the tree that asks for whole lines, or for whole words, if the options do
abbrev pub asked_tree : Options → Tree → Tree
asked_tree options tree = if options.whole_lines then line_tree tree else (if options.whole_words then word_tree tree else tree)

-- only whole words count
abbrev pub asks_for_words : Options → Bool
asks_for_words options = options.whole_words && not options.whole_lines

-- The names that have a match of this pattern or, if it is not wanted, those that have none.
abbrev pub IsTestOf : Case → NameTest → Test → Type 0
IsTestOf case name test = (tree : Tree) × IsTreeOf case name.pattern tree × (test ≡ record { tree = tree; inverted = not name.wanted })

-- a test for each of these patterns
abbrev pub AreTestsOf : Case → List NameTest → List Test → Type 0
AreTestsOf case [] [] = Unit {0}
AreTestsOf case (name ∷ names) (test ∷ tests) = IsTestOf case name test × AreTestsOf case names tests
AreTestsOf case _ _ = ⊥

-- The tree is that of the options' pattern: it is spelled by the text, and what is asked of lines is within the limits.
pub record IsTreeFor (options : Options) (text : List ℕ) (tree : Tree) : Type 0 where
  pub spelled : IsReadAs options.literal options.case text tree
  pub limits : IsWithinLimits (asked_tree options tree)

-- what the options ask for with the pattern of this text
pub record IsRequestOf (options : Options) (text : List ℕ) (request : Request) : Type 0 where
  pub tree : Tree
  pub is_tree : IsTreeFor options text tree
  pub line : request.pattern.line ≡ record { tree = asked_tree options tree; inverted = options.invert }
  pub names : AreTestsOf options.name_case options.names request.pattern.names
  pub within : request.pattern.within ≡ is_within options.under options.not_under
  pub word : request.word ≡ (if asks_for_words options then Some tree else None)
  pub view : request.view ≡ options.view
  pub limit : request.limit ≡ options.limit
  pub zero : request.zero ≡ options.zero

-- Each of these patterns has a tree.
abbrev pub HaveTrees : Case → List NameTest → Type 0
HaveTrees case names = All (λ name. (tree : Tree) × IsTreeOf case name.pattern tree) names

-- The options' pattern has no tree within the limits, with what `-w` or `-x` adds. If its text is too long or has a bad byte, the
-- fault says so. If the text has a tree without what they add, the fault says which limit is passed with it.
pub record IsPatternFault (options : Options) (text : List ℕ) (fault : EreError) : Type 0 where
  pub no_tree : (tree : Tree) → IsTreeFor options text tree → ⊥
  pub bytes : NamesTextFault text fault
  pub size : (tree : Tree) → IsReadAs options.literal options.case text tree → IsSizeFault (asked_tree options tree) fault

-- Why the options ask for nothing with this text: the fault of the first of the patterns of names that has no tree, by its
-- number from 1; or, if they all have one, that of the pattern itself, for which the number is 0.
abbrev pub IsRequestFault : Options → List ℕ → ℕ → EreError → Type 0
IsRequestFault options text zero fault = HaveTrees options.name_case options.names × IsPatternFault options text fault
IsRequestFault options text (suc at) fault =
    HaveTrees options.name_case (take at options.names)
    × (name : NameTest) × (slice_get options.names at ≡ Some name) × IsTreeFault options.name_case name.pattern fault

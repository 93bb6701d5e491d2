-- The limits of a pattern and of its tree (this program's choice), and the one tree of a pattern.
use Rattle.std.specs.Prelude.{◌≢◌, ℕ, ◌+◌, ◌*◌, ◌≤◌, max, List, length, Option, Some, None, IfSome}
use Rattle.std.specs.List.{AllByRecursion}
use Rattle.ere.specs.Tree.{Tree, empty, set, at_start, at_end, cat, alt, repeat, Trees, none, more}
use Rattle.ere.specs.declared.case.Case.{Case}
use Rattle.ere.specs.Spelling.{Spells}

abbrev pub greatest_pattern : ℕ
greatest_pattern = 1024

abbrev pub greatest_open : ℕ
greatest_open = 64

abbrev pub greatest_height : ℕ
greatest_height = 64

abbrev pub greatest_leaves : ℕ
greatest_leaves = 4096

unfoldable mutual
  -- 1 for a leaf, and one more than the highest member for any other tree
  pub height : Tree → ℕ
  height empty = 1
  height (set members) = 1
  height at_start = 1
  height at_end = 1
  height (cat members) = highest members + 1
  height (alt members) = highest members + 1
  height (repeat body least greatest) = height body + 1

  -- the greatest height of these trees
  pub highest : Trees → ℕ
  highest none = 0
  highest (more tree trees) = max (height tree) (highest trees)

-- how many times a repeat counts the leaves of its body
abbrev pub copies_counted : ℕ → Option ℕ → ℕ
copies_counted least (Some greatest) = max greatest 1
copies_counted least None = max least 1

unfoldable mutual
  -- the number of leaves, with those of a repeat's body counted `copies_counted` times
  pub leaves : Tree → ℕ
  leaves empty = 1
  leaves (set members) = 1
  leaves at_start = 1
  leaves at_end = 1
  leaves (cat members) = leaves_in members
  leaves (alt members) = leaves_in members
  leaves (repeat body least greatest) = copies_counted least greatest * leaves body

  pub leaves_in : Trees → ℕ
  leaves_in none = 0
  leaves_in (more tree trees) = leaves tree + leaves_in trees

abbrev pub HasTwo : Trees → Type 0
HasTwo none = ⊥
HasTwo (more tree none) = ⊥
HasTwo (more tree (more next trees)) = Unit {0}

unfoldable mutual
  -- Each cat and alt has at least two members, and no repeat has a least count above its greatest.
  pub IsProper : Tree → Type 0
  IsProper empty = Unit {0}
  IsProper (set members) = Unit {0}
  IsProper at_start = Unit {0}
  IsProper at_end = Unit {0}
  IsProper (cat members) = HasTwo members × AreProper members
  IsProper (alt members) = HasTwo members × AreProper members
  IsProper (repeat body least greatest) = IfSome greatest (λ most. least ≤ most) × IsProper body

  pub AreProper : Trees → Type 0
  AreProper none = Unit {0}
  AreProper (more tree trees) = IsProper tree × AreProper trees

pub record IsWithinLimits (tree : Tree) : Type 0 where
  pub proper : IsProper tree
  pub low : height tree ≤ greatest_height
  pub small : leaves tree ≤ greatest_leaves

-- The pattern has this tree if it is read with this case.
pub record IsTreeOf (case : Case) (pattern : List ℕ) (tree : Tree) : Type 0 where
  pub short : length pattern ≤ greatest_pattern
  pub allowed : AllByRecursion (λ b. (b ≢ 0) × (b ≢ 10)) pattern
  pub spelled : Spells case greatest_open pattern tree
  pub low : height tree ≤ greatest_height
  pub small : leaves tree ≤ greatest_leaves

-- The pattern has no tree.
abbrev pub HasNoTree : Case → List ℕ → Type 0
HasNoTree case pattern = (tree : Tree) → IsTreeOf case pattern tree → ⊥

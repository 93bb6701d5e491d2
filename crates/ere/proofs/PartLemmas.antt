-- Trees and members as they are kept.
use Rattle.std.proofs.Common.{◌≡◌, ◌≢◌, ℕ, ◌+◌, ◌<◌, max, List, [], ◌∷◌, ◌++◌, length, Option, refl, sym, ap, ◌∙◌, arith}
use Rattle.ere.specs.declared.tree.Ere.{Ere}
use Rattle.ere.specs.Tree.{Tree, Trees, none, more, empty, cat, alt, repeat, form}
use Rattle.ere.specs.Limits.{height, highest, greatest_height}
use Rattle.ere.specs.Spelling.{branch_of, alternatives_of}
use Rattle.ere.specs.Private.Reading.{join}
use Rattle.ere.proofs.Sizes.{forms}

pub join-forms : (members : List Ere) (e : Ere) → forms (members ++ e ∷ []) ≡ join (forms members) (more (form e) none)
join-forms [] e = refl
join-forms (a ∷ members) e = ap (more (form a)) (join-forms members e)

pub highest-join : (trees : Trees) (tree : Tree) → highest (join trees (more tree none)) ≡ max (highest trees) (height tree)
unfolding highest
highest-join none tree = omega arith
highest-join (more a trees) tree = let rest = highest-join trees tree in omega (arith, rest)

pub highest_one : (tree : Tree) → highest (more tree none) ≡ height tree
unfolding highest
highest_one tree = omega arith

pub highest_none : highest none ≡ 0
unfolding highest
highest_none = refl

pub branch_none : (members : List Ere) (trees : Trees) → forms members ≡ trees → length members ≡ 0 → branch_of trees ≡ empty
branch_none [] trees e h = ap branch_of (sym e)
branch_none (a ∷ members) trees e h = absurd (omega (arith, h))

pub just_one : (members : List Ere) (trees : Trees) → forms members ≡ trees → length members ≡ 1 → (tree : Tree) × (trees ≡ more tree none)
just_one [] trees e h = absurd (omega (arith, h))
just_one (a ∷ []) trees e h = (form a, sym e)
just_one (a ∷ b ∷ members) trees e h = absurd (omega (arith, h))

pub branch_cat : (members : List Ere) (trees : Trees) → forms members ≡ trees → length members ≢ 0 → length members ≢ 1 → branch_of trees ≡ cat trees
branch_cat [] trees e h k = absurd (h refl)
branch_cat (a ∷ []) trees e h k = absurd (k refl)
branch_cat (a ∷ b ∷ members) trees e h k = ap branch_of (sym e) ∙ ap cat e

pub alternatives_alt : (members : List Ere) (trees : Trees) → forms members ≡ trees → length members ≢ 1 → alternatives_of trees ≡ alt trees
alternatives_alt [] trees e k = ap alternatives_of (sym e) ∙ ap alt e
alternatives_alt (a ∷ []) trees e k = absurd (k refl)
alternatives_alt (a ∷ b ∷ members) trees e k = ap alternatives_of (sym e) ∙ ap alt e

pub high_branch : (trees : Trees) → greatest_height < highest trees → greatest_height < height (branch_of trees)
unfolding height highest
high_branch none h = absurd (omega (arith, h))
high_branch (more a none) h = omega (arith, h)
high_branch (more a (more b trees)) h = omega (arith, h)

pub high_alternatives : (trees : Trees) → greatest_height < highest trees → greatest_height < height (alternatives_of trees)
unfolding height highest
high_alternatives none h = absurd (omega (arith, h))
high_alternatives (more a none) h = omega (arith, h)
high_alternatives (more a (more b trees)) h = omega (arith, h)

pub height_empty : height empty ≡ 1
unfolding height
height_empty = refl

pub height_cat : (trees : Trees) → height (cat trees) ≡ highest trees + 1
unfolding height
height_cat trees = refl

pub height_alt : (trees : Trees) → height (alt trees) ≡ highest trees + 1
unfolding height
height_alt trees = refl

pub height_repeat : (tree : Tree) (least : ℕ) (greatest : Option ℕ) → height (repeat tree least greatest) ≡ height tree + 1
unfolding height
height_repeat tree least greatest = refl

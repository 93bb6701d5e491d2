-- The tree without its anchors.
use Rattle.std.specs.Prelude.{ℕ, List}
use Rattle.ere.specs.Tree.{Tree, empty, set, at_start, at_end, cat, alt, repeat, Trees, none, more}
use Rattle.ere.specs.Language.{InLanguage}

unfoldable mutual
  -- the tree with each anchor replaced by the empty text
  pub without_anchors : Tree → Tree
  without_anchors empty = empty
  without_anchors (set members) = set members
  without_anchors at_start = empty
  without_anchors at_end = empty
  without_anchors (cat members) = cat (all_without_anchors members)
  without_anchors (alt members) = alt (all_without_anchors members)
  without_anchors (repeat body least greatest) = repeat (without_anchors body) least greatest

  pub all_without_anchors : Trees → Trees
  all_without_anchors none = none
  all_without_anchors (more tree trees) = more (without_anchors tree) (all_without_anchors trees)

-- A word of a tree in its surroundings is, in any surroundings, a word of the tree without its anchors.
abbrev pub ForgetsSurroundings : Type 0
ForgetsSurroundings =
    (tree : Tree) (before word after before' after' : List ℕ) → InLanguage tree before word after → InLanguage (without_anchors tree) before' word after'

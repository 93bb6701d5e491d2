-- The tree of an extended regular expression as plain data: the value of an `Ere`, without its memory.
use Rattle.std.specs.Prelude.{ℕ, Bool, List, [], ◌∷◌, Option}
use Rattle.ere.specs.declared.tree.Ere.{Ere, Ere-F}
use Rattle.ere.specs.declared.tree.Ere.TheOpen as layer
use Rattle.ere.specs.declared.tree.Ere.TheFolds.{fold-Ere}

mutual
  pub data Tree : Type 0 where
    empty : Tree
    set : List Bool → Tree
    at_start : Tree
    at_end : Tree
    cat : Trees → Tree
    alt : Trees → Tree
    repeat : Tree → ℕ → Option ℕ → Tree

  pub data Trees : Type 0 where
    none : Trees
    more : Tree → Trees → Trees

abbrev pub trees_of : List Tree → Trees
trees_of [] = none
trees_of (tree ∷ trees) = more tree (trees_of trees)

-- one layer of a program's tree, with the plain trees of its members
abbrev pub form_step : Ere-F Tree → Tree
form_step layer.Empty = empty
form_step (layer.Set members) = set members
form_step layer.Start = at_start
form_step layer.End = at_end
form_step (layer.Cat members) = cat (trees_of members.items)
form_step (layer.Alt members) = alt (trees_of members.items)
form_step (layer.Repeat body least greatest) = repeat body.value least greatest

-- the plain tree of a program's tree
unfoldable pub form : Ere → Tree
form = fold-Ere Tree form_step

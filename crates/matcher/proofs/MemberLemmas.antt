-- The members of a list from a place on, as trees.
use Rattle.std.proofs.Common.{◌≡◌, ℕ, ◌+◌, ◌<◌, ◌≤◌, List, ◌∷◌, length, map, drop, get_or, sym, ap, ◌∙◌}
use Rattle.std.proofs.Math.ListN.{drop_of_length-le}
use Rattle.std.proofs.lemmas.List.{at_drop_more}
use Rattle.ere.specs.declared.tree.Ere.{Ere}
use Rattle.ere.specs.Tree.{form, trees_of, none}

pub trees_at : (members : List Ere) (k : ℕ) (member : Ere) → k < length members → member ≡ get_or members k member
    → trees_of (map form (drop k members)) ≡ trees_of (map form (member ∷ drop (k + 1) members))
trees_at members k member low e =
    at_drop_more (λ ms. trees_of (map form ms)) members k member low ∙ ap (λ m. trees_of (map form (m ∷ drop (k + 1) members))) (sym e)

pub no_trees : (members : List Ere) (k : ℕ) → length members ≤ k → trees_of (map form (drop k members)) ≡ none
no_trees members k high = ap (λ ms. trees_of (map form ms)) (drop_of_length-le members high)

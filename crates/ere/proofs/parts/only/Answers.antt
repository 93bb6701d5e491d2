use Rattle.std.proofs.Common.{◌≡◌, ap, sym, ◌∙◌, List, [], ◌∷◌, ◌++◌}
use Rattle.ere.specs.declared.tree.Ere.{Ere}
use Rattle.ere.specs.Tree.{Tree, none, more, form}
use Rattle.ere.proofs.Sizes.{forms}
use Rattle.ere.proofs.PartLemmas.{highest_one}
use Rattle.ere.proofs.parts.only.Goals as goal

last_only : (members front : List Ere) (e : Ere) (tree : Tree) → members ≡ front ++ e ∷ [] → forms members ≡ more tree none → form e ≡ tree
last_only members [] e tree same is = let both = ap forms (sym same) ∙ is in cc
last_only members (a ∷ []) e tree same is = absurd (let both = ap forms (sym same) ∙ is in cc)
last_only members (a ∷ b ∷ front) e tree same is = absurd (let both = ap forms (sym same) ∙ is in cc)

pub returns-in-Some : goal.returns-in-Some
returns-in-Some c = λ tree built. (last_only _ _ c.in-Some.tree tree c.in-Some.ensures.items built.0, sym (highest_one tree) ∙ built.1, built.2)

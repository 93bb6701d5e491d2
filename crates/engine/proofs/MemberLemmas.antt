-- The members of a list, and the patterns that stand for them.
use Rattle.std.proofs.Common.{◌≡◌, ℕ, ◌+◌, ◌<◌, ◌≤◌, List, [], ◌∷◌, ◌++◌, length, map, drop, get_or, sym, subst, append_assoc}
use Rattle.std.proofs.Math.ListN.{drop_of_length-le}
use Rattle.regex_hir.specs.Re.{Re}
use Rattle.ere.specs.declared.tree.Ere.{Ere}
use Rattle.ere.specs.Tree.{form, trees_of}
use Rattle.matcher.proofs.MemberLemmas.{trees_at}
use Rattle.engine.specs.Translation.{StandsFor, StandForEach}

pub nothing_left : (members : List Ere) (k : ℕ) → length members ≤ k → StandForEach (trees_of (map form (drop k members))) []
unfolding StandForEach
nothing_left members k high = rw (drop_of_length-le members high) tt

-- one member, and then the others
pub next_member : (members : List Ere) (k : ℕ) (member : Ere) (re : Re) (done more : List Re) → k < length members
    → member ≡ get_or members k member → StandsFor (form member) re
    → ((all : List Re) → StandForEach (trees_of (map form (drop k members))) all → StandForEach (trees_of (map form members)) (done ++ all))
    → StandForEach (trees_of (map form (drop (k + 1) members))) more
    → StandForEach (trees_of (map form members)) ((done ++ re ∷ []) ++ more)
unfolding StandForEach
next_member members k member re done more low e one so_far rest =
    subst (λ all. StandForEach (trees_of (map form members)) all) (sym (append_assoc done (re ∷ []) more))
    (so_far (re ∷ more) (subst (λ trees. StandForEach trees (re ∷ more)) (sym (trees_at members k member low e)) (one, rest)))

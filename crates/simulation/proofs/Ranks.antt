-- The members of a node have lower ranks.
use Rattle.std.proofs.Common.{◌≡◌, ℕ, ◌+◌, ◌<◌, arith, subst}
use Rattle.simulation.specs.declared.node.Gaps.{Gaps}
use Rattle.simulation.specs.declared.node.RepeatCounts.{RepeatCounts}
use Rattle.simulation.specs.declared.node.Sizes.{Sizes}
use Rattle.simulation.specs.Nodes.{Shape, both, either, loop, times}
use Rattle.simulation.specs.Pending.{rank}

pub both_falls : (node left right : Shape) (sizes : Sizes) (before after : Gaps) (t : ℕ) → node ≡ both left right sizes before after → rank node ≡ t
    → rank left + rank right + 1 < t
unfolding rank
both_falls node left right sizes before after t is rank_is =
    let whole : rank (both left right sizes before after) ≡ t = subst (λ p. rank p ≡ t) is rank_is in
    omega arith

pub either_falls : (node left right : Shape) (sizes : Sizes) (t : ℕ) → node ≡ either left right sizes → rank node ≡ t → rank left + rank right + 1 < t
unfolding rank
either_falls node left right sizes t is rank_is =
    let whole : rank (either left right sizes) ≡ t = subst (λ p. rank p ≡ t) is rank_is in
    omega arith

pub loop_falls : (node body : Shape) (own t : ℕ) → node ≡ loop body own → rank node ≡ t → rank body + 1 < t
unfolding rank
loop_falls node body own t is rank_is =
    let whole : rank (loop body own) ≡ t = subst (λ p. rank p ≡ t) is rank_is in
    omega arith

pub times_falls : (node body : Shape) (counts : RepeatCounts) (t : ℕ) → node ≡ times body counts → rank node ≡ t → rank body + 1 < t
unfolding rank
times_falls node body counts t is rank_is =
    let whole : rank (times body counts) ≡ t = subst (λ p. rank p ≡ t) is rank_is in
    omega arith

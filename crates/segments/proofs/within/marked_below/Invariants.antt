use Rattle.std.proofs.Common.{◌≡◌, get_or, false}
use Rattle.std.specs.Prelude.{filter}
use Rattle.segments.specs.Private.Below.{numbers_below}
use Rattle.segments.proofs.within.marked_below.Given as goal

abbrev pub invariant-loop-place : goal.invariant-loop-place
invariant-loop-place g l = l.marked.items ≡ filter (λ p. get_or l.marks p false) (numbers_below l.place)

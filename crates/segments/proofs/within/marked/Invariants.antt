use Rattle.std.proofs.Common.{◌≡◌, get_or, false, take}
use Rattle.std.specs.Prelude.{filter}
use Rattle.segments.proofs.within.marked.Given as goal

abbrev pub invariant-loop-place : goal.invariant-loop-place
invariant-loop-place g l = l.marked.items ≡ filter (λ p. get_or l.marks p false) (take l.place-index l.places)

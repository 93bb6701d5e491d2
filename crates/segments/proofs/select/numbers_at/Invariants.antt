use Rattle.std.proofs.Common.{◌≡◌, map, take, get_or}
use Rattle.segments.proofs.select.numbers_at.Given as goal

abbrev pub invariant-loop-place : goal.invariant-loop-place
invariant-loop-place g l = l.found.items ≡ map (λ p. get_or l.numbers p 0) (take l.place-index l.places)

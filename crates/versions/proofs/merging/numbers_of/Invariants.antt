use Rattle.std.proofs.Common.{◌≡◌, take, map}
use Rattle.versions.proofs.merging.numbers_of.Given as goal

abbrev pub invariant-loop-content : goal.invariant-loop-content
invariant-loop-content l = l.numbers.items ≡ map (λ c. c.now.number) (take l.content-index l.contents)

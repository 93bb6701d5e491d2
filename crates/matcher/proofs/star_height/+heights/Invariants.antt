use Rattle.std.proofs.Common.{◌≡◌, nat_le}
use Rattle.matcher.proofs.HeightLemmas.{height_from}
use Rattle.matcher.proofs.star_height.+heights.Given as goal

abbrev pub invariant-some_has_star_height-loop-member : goal.invariant-some_has_star_height-loop-member
invariant-some_has_star_height-loop-member l = nat_le l.least (height_from l.members l.member-index) ≡ nat_le l.least (height_from l.members 0)

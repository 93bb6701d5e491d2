use Rattle.std.proofs.Common.{◌≡◌}
use Rattle.segments.specs.Private.Selection.{trigrams_with, places_within}
use Rattle.segments.proofs.Selection.{narrowed}
use Rattle.segments.proofs.select.narrow_by_trigrams.Given as goal

abbrev pub invariant-loop-i : goal.invariant-loop-i
invariant-loop-i g l = l.found.items ≡ narrowed (λ n. trigrams_with l.table n) l.trigrams l.first l.i (places_within l.count l.within)

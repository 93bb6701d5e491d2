use Rattle.segments.proofs.Selection.{IsNarrowed, IsMarked, is_met_by}
use Rattle.segments.specs.Private.Selection.{places_within}
use Rattle.segments.proofs.select.+narrow.Given as goal

abbrev pub invariant-narrow_by_all-loop-i : goal.invariant-narrow_by_all-loop-i
invariant-narrow_by_all-loop-i g l = IsNarrowed (is_met_by l.table) l.members l.first l.i (places_within l.count l.within) l.found.items

abbrev pub invariant-narrow_by_any-loop-member : goal.invariant-narrow_by_any-loop-member
invariant-narrow_by_any-loop-member g l = IsMarked (is_met_by l.table) l.members l.member-index (places_within l.count l.within) l.marks.items

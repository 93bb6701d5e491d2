use Rattle.posting.proofs.Selection.{Narrowed, Joined, is_met_by}
use Rattle.posting.proofs.postings.Postings.+narrow.Given as goal

abbrev pub invariant-collect_all-loop-i : goal.invariant-collect_all-loop-i
invariant-collect_all-loop-i g l = Narrowed (is_met_by l.self) l.members l.first l.i l.within.members l.found.members

abbrev pub invariant-collect_any-loop-member : goal.invariant-collect_any-loop-member
invariant-collect_any-loop-member g l = Joined (is_met_by l.self) l.members l.member-index l.within.members l.lists.items

use Rattle.posting.specs.Postings.{trigrams_with}
use Rattle.posting.proofs.Selection.{Narrowed}
use Rattle.posting.proofs.postings.Postings.collect_all_by.Given as goal

abbrev pub invariant-loop-i : goal.invariant-loop-i
invariant-loop-i g l = Narrowed (λ n. trigrams_with l.self n) l.trigrams l.first l.i l.within.members l.found.members

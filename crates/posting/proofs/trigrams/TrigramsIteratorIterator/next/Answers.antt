use Rattle.std.proofs.Common.{◌<◌}
use Rattle.std.proofs.lemmas.List.Elements.{All-nil, All-tail}
use Rattle.posting.proofs.trigrams.TrigramsIteratorIterator.next.Goals as goal
use Rattle.posting.proofs.trigrams.TrigramsIteratorIterator.next.Goals.{in-Some, in-None}

pub invariant_of-self : goal.invariant_of-self
invariant_of-self c = elim c.match-next.branch [
  | in-Some w ↦ All-tail (λ n. n < 16777216) w.in-Some.number c.next.new.self (rw w.in-Some.ensures.steps at c.self.invariant)
  | in-None w ↦ rw w.in-None.ensures.steps.1 (All-nil (λ n. n < 16777216))
]

use Rattle.std.proofs.Common.{◌≡◌, length}
use Rattle.posting.specs.Private.Parts.{Moves}
use Rattle.posting.proofs.Moving.{left_of}
use Rattle.posting.proofs.filling.put_below.Given as goal

abbrev pub invariant-loop-trigram : goal.invariant-loop-trigram
invariant-loop-trigram l = record {
  same : l.ahead ≡ l.trigrams;
  moved : Moves l.first l.initial.parts l.parts (left_of l.fn.left.number l.fn.left.trigrams) (left_of l.number l.trigrams);
}

abbrev pub decreases-loop-trigram : goal.decreases-loop-trigram
decreases-loop-trigram l = length l.ahead

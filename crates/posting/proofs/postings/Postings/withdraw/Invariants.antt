use Rattle.std.proofs.Common.{◌≡◌, ◌++◌}
use Rattle.posting.proofs.Changes.{Withdrawn}
use Rattle.posting.proofs.postings.Postings.withdraw.Given as goal

abbrev pub invariant-loop-trigram : goal.invariant-loop-trigram
invariant-loop-trigram l = record {
  passed : l.trigrams ≡ l.yielded ++ l.trigram-iterator;
  changed : Withdrawn l.initial.self l.self l.yielded l.number;
}

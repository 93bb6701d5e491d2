use Rattle.std.proofs.Common.{◌≡◌, ◌++◌}
use Rattle.posting.proofs.Changes.{Added}
use Rattle.posting.proofs.postings.Postings.add.Given as goal

abbrev pub invariant-loop-trigram : goal.invariant-loop-trigram
invariant-loop-trigram l = record {
  passed : l.trigrams ≡ l.yielded ++ l.trigram-iterator;
  changed : Added l.initial.self l.self l.yielded l.number;
}

use Rattle.std.proofs.Common.{◌≡◌, ◌++◌}
use Rattle.posting.proofs.Changes.{Prepared}
use Rattle.posting.proofs.postings.Postings.prepare.Given as goal

abbrev pub invariant-loop-trigram : goal.invariant-loop-trigram
invariant-loop-trigram l = record {
  passed : l.trigrams ≡ l.yielded ++ l.trigram-iterator;
  changed : Prepared l.initial.self l.self l.number l.yielded;
}

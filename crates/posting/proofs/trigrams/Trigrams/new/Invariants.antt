use Rattle.std.proofs.Common.{◌≡◌, ◌+◌, ◌≤◌, ◌<◌, take, length}
use Rattle.std.specs.Prelude.{All}
use Rattle.posting.proofs.trigrams.Trigrams.new.Given as goal

abbrev pub invariant-loop-trigram : goal.invariant-loop-trigram
invariant-loop-trigram l = record {
  members : l.numbers.members ≡ take l.trigram-index l.rising;
  bound : All (λ n. n < 16777216) l.numbers.members;
  room : length l.rising ≤ l.numbers.room + l.trigram-index;
}

use Rattle.std.proofs.Common.{◌≡◌, take, length}
use Rattle.segments.specs.Contents.{contents_in}
use Rattle.segments.proofs.Joined.{IsJoinedFor}
use Rattle.segments.proofs.join.joined.Given as goal

abbrev pub invariant-loop-trigram : goal.invariant-loop-trigram
invariant-loop-trigram l = record {
  joined : IsJoinedFor l.fn.numbers (contents_in l.fn.segments) (take l.trigram-index l.trigram-items) l.whole.sets;
  count : l.whole.count ≡ length l.fn.numbers;
}

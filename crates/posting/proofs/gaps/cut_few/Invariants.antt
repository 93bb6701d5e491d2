use Rattle.std.proofs.Common.{length, ◌≤◌}
use Rattle.posting.specs.Private.Gaps.{IsCut}
use Rattle.posting.proofs.gaps.cut_few.Given as goal

abbrev pub invariant-loop-few : goal.invariant-loop-few
invariant-loop-few l = record {
  cut : IsCut l.bytes l.number l.front l.at;
  shorter : length l.front ≤ length l.bytes;
}

use Rattle.std.proofs.Common.{length, ◌≤◌}
use Rattle.posting.specs.Private.Gaps.{IsPassed}
use Rattle.posting.proofs.gaps.pass_few.Given as goal

abbrev pub invariant-loop-few : goal.invariant-loop-few
invariant-loop-few l = record {
  passed : IsPassed l.before l.bytes l.number l.at l.rest;
  shorter : length l.rest ≤ length l.bytes;
}

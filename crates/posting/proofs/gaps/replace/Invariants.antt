use Rattle.std.proofs.Common.{◌≡◌}
use Rattle.posting.proofs.Cuts.{Closing}
use Rattle.posting.proofs.gaps.replace.Given as goal

abbrev pub invariant-loop-place : goal.invariant-loop-place
invariant-loop-place l = record {
  closing : Closing l.fn.bytes.items l.from l.gap l.bytes.items l._place;
  capacity : l.bytes.capacity ≡ l.fn.bytes.capacity;
}

use Rattle.std.proofs.Common.{◌≡◌, take}
use Rattle.segments.specs.Contents.{numbers_of, contents_in}
use Rattle.segments.proofs.join.all_targets.Given as goal

abbrev pub invariant-loop-segment : goal.invariant-loop-segment
invariant-loop-segment l = l.all.items ≡ numbers_of (contents_in (take l.segment-index l.segments))

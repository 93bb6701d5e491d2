use Rattle.std.proofs.Common.{◌≡◌, take}
use Rattle.segments.specs.Contents.{contents_in}
use Rattle.versions.specs.Private.Version.{said}
use Rattle.versions.proofs.merging.lent.Given as goal

abbrev pub invariant-loop-segment : goal.invariant-loop-segment
invariant-loop-segment l = contents_in l.lent.items ≡ said (take l.segment-index l.segments)

use Rattle.std.proofs.Common.{take}
use Rattle.segments.specs.Contents.{contents_in}
use Rattle.segments.specs.Private.Joins.{HasTrigrams}
use Rattle.segments.proofs.join.all_trigrams.Given as goal

abbrev pub invariant-loop-segment : goal.invariant-loop-segment
invariant-loop-segment l = HasTrigrams (contents_in (take l.segment-index l.segments)) l.trigrams.items

use Rattle.std.proofs.Common.{◌≡◌, take}
use Rattle.std.specs.Prelude.{filter}
use Rattle.segments.specs.Contents.{has, numbers_of, contents_in}
use Rattle.segments.proofs.merge.kept_numbers.Given as goal

abbrev pub invariant-loop-segment : goal.invariant-loop-segment
invariant-loop-segment l = l.numbers.items ≡ filter (has l.keep) (numbers_of (contents_in (take l.segment-index l.segments)))

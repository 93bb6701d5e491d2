use Rattle.std.proofs.Common.{◌≡◌, take}
use Rattle.query.specs.Query.{formula_of}
use Rattle.segments.specs.Contents.{selected}
use Rattle.versions.specs.Private.Version.{said}
use Rattle.versions.proofs.sets.Sets.select.Given as goal

abbrev pub invariant-loop-segment : goal.invariant-loop-segment
invariant-loop-segment g l = l.numbers.items ≡ selected (formula_of l.query) (said (take l.segment-index l.segment-items))

use Rattle.std.proofs.Common.{◌≡◌, take}
use Rattle.versions.specs.Private.Version.{said}
use Rattle.versions.proofs.sets.shared.Given as goal

abbrev pub invariant-loop-segment : goal.invariant-loop-segment
invariant-loop-segment l = said l.shared.items ≡ said (take l.segment-index l.segments)

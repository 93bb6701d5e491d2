use Rattle.std.proofs.Common.{◌≤◌, take}
use Rattle.std.specs.Prelude.{All}
use Rattle.versions.specs.Private.Version.{said}
use Rattle.versions.proofs.merging.least.Given as goal

abbrev pub invariant-loop-segment : goal.invariant-loop-segment
invariant-loop-segment l = All (λ c. l.least ≤ c.number) (said (take l.segment-index l.segments))

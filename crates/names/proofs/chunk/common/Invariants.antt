use Rattle.std.proofs.Common.{◌-◌, ◌≤◌, length}
use Rattle.names.proofs.chunk.common.Given as goal

abbrev pub invariant-loop-same : goal.invariant-loop-same
invariant-loop-same l = l.same ≤ length l.one

abbrev pub decreases-loop-same : goal.decreases-loop-same
decreases-loop-same l = length l.one - l.same

use Rattle.std.proofs.Common.{◌-◌}
use Rattle.simulation.proofs.Passing.{IsPassed}
use Rattle.simulation.proofs.run.passed_on.Given as goal

abbrev pub invariant-loop-next : goal.invariant-loop-next
invariant-loop-next l = IsPassed l.word l.passed l.stride l.found l.on l.distance

abbrev pub decreases-loop-next : goal.decreases-loop-next
decreases-loop-next l = 128 - l.distance

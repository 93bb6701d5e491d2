use Rattle.std.proofs.Common.{◌+◌}
use Rattle.simulation.specs.Nodes.{shape}
use Rattle.simulation.specs.Pending.{rank}
use Rattle.simulation.proofs.step.+step.Given as goal

abbrev pub decreases-step : goal.decreases-step
decreases-step l = rank (shape l.node.now)

abbrev pub decreases-step_both : goal.decreases-step_both
decreases-step_both l = rank (shape l.left.now) + rank (shape l.right.now) + 1

abbrev pub decreases-step_either : goal.decreases-step_either
decreases-step_either l = rank (shape l.left.now) + rank (shape l.right.now) + 1

abbrev pub decreases-step_loop : goal.decreases-step_loop
decreases-step_loop l = rank (shape l.body.now) + 1

abbrev pub decreases-step_times : goal.decreases-step_times
decreases-step_times l = rank (shape l.body.now) + 1

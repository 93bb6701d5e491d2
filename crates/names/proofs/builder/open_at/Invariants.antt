use Rattle.std.proofs.Common.{◌-◌}
use Rattle.names.specs.Private.Entries.{passes}
use Rattle.names.proofs.PartLemmas.{Opening}
use Rattle.names.proofs.builder.open_at.Given as goal

abbrev pub invariant-loop-low : goal.invariant-loop-low
invariant-loop-low l = Opening (passes l.edge l.text) l.chunks l.low l.high

abbrev pub decreases-loop-low : goal.decreases-loop-low
decreases-loop-low l = l.high - l.low

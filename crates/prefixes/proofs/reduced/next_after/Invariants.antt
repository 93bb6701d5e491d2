use Rattle.std.proofs.Common.{◌-◌}
use Rattle.prefixes.specs.Private.Apart.{bytes_of}
use Rattle.prefixes.proofs.ReducedLemmas.{Splitting}
use Rattle.prefixes.proofs.reduced.next_after.Given as goal

abbrev pub invariant-loop-low : goal.invariant-loop-low
invariant-loop-low l = Splitting l.name (bytes_of l.texts) l.low l.high

abbrev pub decreases-loop-low : goal.decreases-loop-low
decreases-loop-low l = l.high - l.low

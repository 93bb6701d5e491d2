use Rattle.std.proofs.Common.{◌≡◌, length, ◌-◌}
use Rattle.segments.specs.Private.Keys.{Adds}
use Rattle.segments.proofs.keys.lay.Given as goal

abbrev pub invariant-loop-start : goal.invariant-loop-start
invariant-loop-start l = record {
  adds : Adds l.fn.laying.sets l.keys l.start l.whole.sets;
  count : l.whole.count ≡ l.fn.laying.count;
}

abbrev pub decreases-loop-start : goal.decreases-loop-start
decreases-loop-start l = length l.keys - l.start

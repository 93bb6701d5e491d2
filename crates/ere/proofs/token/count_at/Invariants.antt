use Rattle.std.proofs.Common.{◌-◌, ◌≤◌, drop, length}
use Rattle.ere.proofs.TokenSteps.{CountedTo}
use Rattle.ere.proofs.token.count_at.Given as goal

abbrev pub invariant-loop-value : goal.invariant-loop-value
invariant-loop-value l = record {
  read : CountedTo (drop l.start l.text) (drop l.at l.text) l.value (l.at - l.start);
  on : l.start ≤ l.at;
  within : l.at ≤ length l.text;
  small : l.value ≤ 256;
}

abbrev pub decreases-loop-value : goal.decreases-loop-value
decreases-loop-value l = length l.text - l.at

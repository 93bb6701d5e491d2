use Rattle.std.proofs.Common.{◌-◌, ◌<◌, ◌≤◌, true, drop, length}
use Rattle.ere.specs.Brackets.{SpellsItems}
use Rattle.ere.proofs.brackets.items_at.Given as goal

abbrev pub invariant-loop-at : goal.invariant-loop-at
invariant-loop-at l = record {
  read : SpellsItems true (drop l.start l.text) (drop l.at l.text) l.members;
  on : l.start < l.at;
  within : l.at ≤ length l.text;
}

abbrev pub decreases-loop-at : goal.decreases-loop-at
decreases-loop-at l = length l.text - l.at

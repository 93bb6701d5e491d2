use Rattle.std.proofs.Common.{◌+◌, ◌-◌, ◌*◌, ◌≤◌, drop, length}
use Rattle.ere.proofs.ReaderSteps.{AlternativesSoFar, BranchSoFar}
use Rattle.ere.proofs.reader.+reader.Given as goal

abbrev pub decreases-alternatives : goal.decreases-alternatives
decreases-alternatives l = 4 * (length l.text.now - l.start) + 3

abbrev pub decreases-branch : goal.decreases-branch
decreases-branch l = 4 * (length l.text.now - l.start) + 2

abbrev pub decreases-piece : goal.decreases-piece
decreases-piece l = 4 * (length l.text.now - l.at) + 1

abbrev pub decreases-group : goal.decreases-group
decreases-group l = 4 * (length l.text.now - l.start) + 4

abbrev pub invariant-alternatives-loop-alloc : goal.invariant-alternatives-loop-alloc
invariant-alternatives-loop-alloc l = record {
  read : AlternativesSoFar l.case l.depth (drop l.start l.text) (drop l.at l.text) l.branches;
  on : l.start ≤ l.at;
  within : l.at ≤ length l.text;
}

abbrev pub decreases-alternatives-loop-alloc : goal.decreases-alternatives-loop-alloc
decreases-alternatives-loop-alloc l = length l.text - l.at

abbrev pub invariant-branch-loop-alloc : goal.invariant-branch-loop-alloc
invariant-branch-loop-alloc l = record {
  read : BranchSoFar l.case l.depth (drop l.start l.text) (drop l.at l.text) l.pieces;
  on : l.start ≤ l.at;
  within : l.at ≤ length l.text;
}

abbrev pub decreases-branch-loop-alloc : goal.decreases-branch-loop-alloc
decreases-branch-loop-alloc l = length l.text - l.at

use Rattle.std.proofs.Common.{◌-◌, ◌≤◌, drop, length}
use Rattle.ere.specs.Spelling.{SpellsDuplications}
use Rattle.ere.specs.Tree.{Tree}
use Rattle.ere.specs.Private.Reading.{IsBuilt, Reads}
use Rattle.ere.proofs.reader.repeated.Given as goal

abbrev pub invariant-loop-part : goal.invariant-loop-part
invariant-loop-part l = record {
  read : (tree : Tree) → IsBuilt l.fn.atom tree
      → (whole : Tree) × IsBuilt l.part whole
      × Reads l.case (drop l.start l.text) (drop l.at l.text) (λ all rest. SpellsDuplications all rest tree whole);
  back : Reads l.case (drop l.start l.text) (drop l.at l.text) (λ all rest. Unit {0});
  on : l.start ≤ l.at;
  within : l.at ≤ length l.text;
}

abbrev pub decreases-loop-part : goal.decreases-loop-part
decreases-loop-part l = length l.text - l.at

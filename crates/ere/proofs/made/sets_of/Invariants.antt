use Rattle.std.proofs.Common.{◌≡◌, map, take}
use Rattle.ere.specs.Literal.{sets_of}
use Rattle.ere.specs.Tree.{form, trees_of}
use Rattle.ere.proofs.made.sets_of.Given as goal

abbrev pub invariant-loop-byte : goal.invariant-loop-byte
invariant-loop-byte l = trees_of (map form l.sets.items) ≡ sets_of l.case (take l.byte-index l.text)

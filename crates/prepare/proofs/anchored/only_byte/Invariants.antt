use Rattle.std.proofs.Common.{◌≡◌, ◌++◌}
use Rattle.ere.specs.ByteSet.{has}
use Rattle.prepare.specs.Anchored.{bytes_in}
use Rattle.prepare.proofs.AnchoredLemmas.{listed, bytes_from}
use Rattle.prepare.proofs.anchored.only_byte.Given as goal

abbrev pub invariant-loop-i : goal.invariant-loop-i
invariant-loop-i l = listed l.found ++ bytes_from (has l.set) l.i ≡ bytes_in l.set

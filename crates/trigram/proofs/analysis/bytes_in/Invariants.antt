use Rattle.std.proofs.Common.{◌≡◌, ◌-◌, ◌++◌, filter}
use Rattle.std.specs.List.{range_with_len}
use Rattle.ere.specs.ByteSet.{has}
use Rattle.trigram.specs.Analysis.{bytes_in}
use Rattle.trigram.proofs.analysis.bytes_in.Given as goal

abbrev pub invariant-loop-i : goal.invariant-loop-i
invariant-loop-i l = l.bytes.items ++ filter (has l.set) (range_with_len l.i (256 - l.i)) ≡ bytes_in l.set

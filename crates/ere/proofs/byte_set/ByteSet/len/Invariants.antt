use Rattle.std.proofs.Common.{◌≡◌}
use Rattle.ere.proofs.SetWords.{count_before}
use Rattle.ere.proofs.byte_set.ByteSet.len.Given as goal

abbrev pub invariant-loop-word : goal.invariant-loop-word
invariant-loop-word l = l.count ≡ count_before l.word-items l.word-index

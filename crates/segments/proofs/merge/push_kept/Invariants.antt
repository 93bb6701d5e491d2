use Rattle.std.proofs.Common.{◌≡◌, ◌++◌, take}
use Rattle.std.specs.Prelude.{filter}
use Rattle.segments.specs.Contents.{has}
use Rattle.segments.proofs.merge.push_kept.Given as goal

abbrev pub invariant-loop-number : goal.invariant-loop-number
invariant-loop-number l = l.kept.items ≡ l.initial.kept.items ++ filter (has l.keep) (take l.number-index l.numbers)

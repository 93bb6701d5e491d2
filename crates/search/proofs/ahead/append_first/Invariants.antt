use Rattle.std.proofs.Common.{◌≡◌, ◌++◌, take}
use Rattle.views.specs.Text.{text_of_hits}
use Rattle.search.proofs.ahead.append_first.Given as goal

abbrev pub invariant-loop-at : goal.invariant-loop-at
invariant-loop-at g l = l.out.items ≡ l.initial.out.items ++ text_of_hits l.zero (take l.at l.lines)

use Rattle.std.proofs.Common.{◌≡◌, fold}
use Rattle.published.specs.Private.Shelf.{operated}
use Rattle.published.proofs.log.make_up.Given as goal

-- With what it lacks the spare copy is the same.
abbrev pub invariant-loop-left : goal.invariant-loop-left
invariant-loop-left l = fold operated l.spare l.behind.items ≡ fold operated l.fn.spare l.fn.behind.items

abbrev pub decreases-loop-left : goal.decreases-loop-left
decreases-loop-left l = l.left

use Rattle.std.proofs.Common.{◌≡◌, ◌≤◌, length, drop, fold}
use Rattle.published.specs.Private.Shelf.{operated}
use Rattle.published.proofs.log.run_ahead.Given as goal

-- With what it lacks the spare copy is the same.
abbrev pub invariant-loop-left : goal.invariant-loop-left
invariant-loop-left l =
    (l.ahead ≤ length l.pending.items)
    × (fold operated l.spare (drop l.ahead l.pending.items) ≡ fold operated l.fn.spare (drop l.fn.ahead l.pending.items))

abbrev pub decreases-loop-left : goal.decreases-loop-left
decreases-loop-left l = l.left

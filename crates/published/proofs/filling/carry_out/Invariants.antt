use Rattle.std.proofs.Common.{◌≡◌, take, fold}
use Rattle.published.specs.Private.Shelf.{operated}
use Rattle.published.proofs.filling.carry_out.Given as goal

-- The copy has the operations so far.
abbrev pub invariant-loop-at : goal.invariant-loop-at
invariant-loop-at l = l.copy ≡ fold operated l.fn.copy (take l.at l.operations)

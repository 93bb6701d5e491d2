use Rattle.std.proofs.Common.{ℕ, take}
use Rattle.index.specs.Private.Copying.{AreLeft}
use Rattle.index.specs.Private.Store.{stored, IsStore}
use Rattle.index.proofs.copying.leave_all.Given as goal

abbrev pub invariant-loop-at : goal.invariant-loop-at
invariant-loop-at l =
    AreLeft l.leaves (take l.at l.copies) (stored l.fn.store) l.fn.groups (stored l.store) l.groups
    × ((last : ℕ) → IsStore last l.fn.store → IsStore last l.store)

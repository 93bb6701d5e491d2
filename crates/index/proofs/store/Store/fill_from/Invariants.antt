use Rattle.std.proofs.Common.{◌≡◌, ℕ}
use Rattle.index.specs.Private.Store.{stored, IsStore}
use Rattle.index.proofs.store.Store.fill_from.Given as goal

-- The documents stay, and the sets follow them.
abbrev pub invariant-loop-left : goal.invariant-loop-left
invariant-loop-left l = record {
  documents : stored l.self ≡ stored l.fn.self;
  store : (last : ℕ) → IsStore last l.fn.self → IsStore last l.self;
}

abbrev pub decreases-loop-left : goal.decreases-loop-left
decreases-loop-left l = l.left

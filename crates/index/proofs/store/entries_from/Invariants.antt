use Rattle.std.proofs.Common.{◌≡◌, ℕ, take}
use Rattle.posting.specs.Postings.{is_listed}
use Rattle.index.specs.Private.Slots.{documents_in}
use Rattle.index.specs.Private.Sets.{is_waiting}
use Rattle.index.proofs.store.entries_from.Given as goal

abbrev pub invariant-loop-at : goal.invariant-loop-at
invariant-loop-at l = (t n : ℕ) → is_listed l.entries.items t n ≡ is_waiting l.first (documents_in (take l.at l.slots)) t n

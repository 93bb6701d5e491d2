use Rattle.std.proofs.Common.{◌≡◌, ℕ, take}
use Rattle.posting.specs.Postings.{is_listed}
use Rattle.posting.specs.Private.Parts.{is_left}
use Rattle.posting.proofs.filling.all_left.Given as goal

abbrev pub invariant-loop-at : goal.invariant-loop-at
invariant-loop-at l = (t n : ℕ) → is_left l.lefts.items t n ≡ is_listed (take l.at l.entries) t n

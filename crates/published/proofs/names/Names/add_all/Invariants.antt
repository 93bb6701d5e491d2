use Rattle.std.proofs.Common.{◌≡◌, ◌||◌, ℕ, List, take}
use Rattle.published.specs.Private.Names.{has_name, is_one_of}
use Rattle.published.proofs.names.Names.add_all.Given as goal

abbrev pub invariant-loop-at : goal.invariant-loop-at
invariant-loop-at l = (other : List ℕ) → has_name l.self other ≡ (is_one_of (take l.at l.names) other || has_name l.fn.self other)

use Rattle.std.proofs.Common.{◌≡◌, ◌++◌}
use Rattle.index.specs.Private.Copying.{copies_in}
use Rattle.index.proofs.UnderLemmas.{Behind}
use Rattle.index.proofs.copying.copies_under.Given as goal

-- The copies so far, and those of the entries that are left, are all.
abbrev pub invariant-loop-name : goal.invariant-loop-name
invariant-loop-name l =
    (l.copies.items ++ copies_in l.from l.to l.numbers l.name-iterator ≡ copies_in l.from l.to l.numbers l.numbers.entries)
    × Behind l.from l.name-iterator

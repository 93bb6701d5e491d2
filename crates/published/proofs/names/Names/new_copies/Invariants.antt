use Rattle.std.proofs.Common.{◌≡◌, take}
use Rattle.published.specs.Private.Names.{new_copies}
use Rattle.published.proofs.names.Names.new_copies.Given as goal

abbrev pub invariant-loop-at : goal.invariant-loop-at
invariant-loop-at l = l.copies.items ≡ new_copies l.self l.from l.to (take l.at l.names)

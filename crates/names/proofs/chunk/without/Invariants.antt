use Rattle.std.proofs.Common.{◌≡◌, take}
use Rattle.names.specs.Private.Entries.{with_prefix}
use Rattle.names.proofs.chunk.without.Given as goal

abbrev pub invariant-loop-at : goal.invariant-loop-at
invariant-loop-at l = with_prefix l.prefix l.suffixes ≡ take l.at l.names

use Rattle.std.proofs.Common.{◌≡◌, ◌++◌, take, drop}
use Rattle.names.specs.Private.Entries.{with_prefix}
use Rattle.names.proofs.texts.Texts.with_begun.Given as goal

abbrev pub invariant-loop-at : goal.invariant-loop-at
invariant-loop-at l = l.texts ≡ l.fn.self ++ with_prefix l.beginning (drop l.from (take l.at l.others))

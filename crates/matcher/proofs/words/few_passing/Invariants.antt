use Rattle.std.proofs.Common.{◌+◌, ◌-◌}
use Rattle.matcher.specs.Private.Moving.{IsPassing}
use Rattle.matcher.proofs.words.few_passing.Given as goal

abbrev pub invariant-loop-bit : goal.invariant-loop-bit
invariant-loop-bit l = IsPassing l.members l.line l.passing (l.base + l.bit) (64 - l.bit)

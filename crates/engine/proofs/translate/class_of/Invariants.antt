use Rattle.std.proofs.Common.{◌≡◌, ℕ, ◌&&◌, nat_lt}
use Rattle.regex_class.specs.Ranges.{in_ranges}
use Rattle.ere.specs.ByteSet.{has}
use Rattle.engine.proofs.translate.class_of.Given as goal

abbrev pub invariant-loop-i : goal.invariant-loop-i
invariant-loop-i l = (b : ℕ) → in_ranges l.ranges.items b ≡ (nat_lt b l.i && has l.set b)

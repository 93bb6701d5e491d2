use Rattle.std.proofs.Common.{sym}
use Rattle.std.proofs.Math.Bool.{or-false}
use Rattle.ere.specs.Bits.{has_bit}
use Rattle.ere.proofs.Bits.{has_with}
use Rattle.matcher.proofs.words.with_bit_if.Goals as goal

pub returns-then-comes : goal.returns-then-comes
returns-then-comes c = λ b. rw c.if-comes.true (has_with c.args.word c.args.bit b c.requires)

pub returns-else-comes : goal.returns-else-comes
returns-else-comes c = λ b. rw c.if-comes.false (sym (or-false (has_bit c.args.word b)))

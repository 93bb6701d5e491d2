use Rattle.std.proofs.Common.{arith}
use Rattle.ere.proofs.Bits.{has_without}
use Rattle.matcher.proofs.words.without.Goals as goal

pub returns : goal.returns
returns c = λ b inside. has_without c.args.word c.args.other b (omega arith) inside

use Rattle.ere.proofs.Bits.{has_only}
use Rattle.matcher.proofs.words.only_bit.Goals as goal

pub returns : goal.returns
returns c = λ b. has_only c.args.word c.args.bit b c.requires

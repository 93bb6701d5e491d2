use Rattle.ere.proofs.Bits.{has_or}
use Rattle.matcher.proofs.words.either.Goals as goal

pub returns : goal.returns
returns c = λ b. has_or c.args.left c.args.right b

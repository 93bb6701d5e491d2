use Rattle.spans.proofs.Bits.{has_through}
use Rattle.matcher.proofs.words.through_bit.Goals as goal

pub returns : goal.returns
returns c = λ b. has_through c.args.last b c.requires

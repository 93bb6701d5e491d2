use Rattle.spans.proofs.Bits.{has_moved_to}
use Rattle.matcher.proofs.words.moved_to.Goals as goal

pub returns : goal.returns
returns c = λ b inside. has_moved_to c.args.word c.args.at b inside

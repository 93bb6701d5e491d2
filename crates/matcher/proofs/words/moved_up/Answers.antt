use Rattle.std.proofs.Common.{arith}
use Rattle.spans.proofs.Bits.{moved_lowest, moved_others}
use Rattle.matcher.proofs.words.moved_up.Goals as goal

pub returns-clause-lowest : goal.returns-clause-lowest
returns-clause-lowest c = moved_lowest c.args.word c.args.carried (omega arith)

pub returns-clause-others : goal.returns-clause-others
returns-clause-others c = λ b inside. moved_others c.args.word c.args.carried b (omega arith) c.requires inside

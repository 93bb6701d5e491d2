use Rattle.std.proofs.Common.{arith}
use Rattle.matcher.proofs.OneWords.{one_through}
use Rattle.matcher.proofs.one_word.OneWordPositionSet.through.Goals as goal

pub returns : goal.returns
returns c = one_through c.through_bit.result c.args.last (omega (arith, c.requires)) c.through_bit.ensures

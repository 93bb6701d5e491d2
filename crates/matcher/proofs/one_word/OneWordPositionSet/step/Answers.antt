use Rattle.std.proofs.Common.{arith}
use Rattle.matcher.proofs.OneWords.{one_shifted}
use Rattle.matcher.proofs.one_word.OneWordPositionSet.step.Goals as goal

pub returns : goal.returns
returns c =
    rw (← c.self.view_is)
    (one_shifted c.args.line.now c.args.members.now (omega (arith, c.requires)) c.self.inside.word c.followed.result
    c.moved_up-self-inside.result c.followed.ensures c.moved_up-self-inside.ensures.lowest c.moved_up-self-inside.ensures.others)

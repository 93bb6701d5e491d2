use Rattle.std.proofs.Common.{arith}
use Rattle.matcher.proofs.OneWords.{one_swept}
use Rattle.matcher.proofs.one_word.OneWordPositionSet.sweep.Goals as goal

pub returns : goal.returns
returns c =
    rw (← c.self.view_is)
    (one_swept c.args.line.now c.args.members.now (omega (arith, c.requires)) c.self.inside.word c.reached-self-inside.result
    c.reached-self-inside.ensures)

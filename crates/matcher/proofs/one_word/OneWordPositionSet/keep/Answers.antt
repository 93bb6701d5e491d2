use Rattle.matcher.proofs.OneWords.{one_kept}
use Rattle.matcher.proofs.one_word.OneWordPositionSet.keep.Goals as goal

pub returns : goal.returns
returns c = rw (← c.self.view_is) (one_kept c.self.inside.word c.only_bit-self-inside.result c.args.position c.only_bit-self-inside.ensures)

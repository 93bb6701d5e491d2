use Rattle.std.proofs.Common.{rules}
use Rattle.matcher.proofs.OneWords.{one_empty}
use Rattle.matcher.proofs.one_word.OneWordPositionSet.is_empty.Goals as goal

pub returns : goal.returns
returns c = rw (← c.self.view_is) (one_empty c.self.inside.word (search rules))

use Rattle.matcher.proofs.OneWords.{one_none}
use Rattle.matcher.proofs.one_word.OneWordPositionSet.none.Goals as goal

pub returns : goal.returns
returns c = one_none

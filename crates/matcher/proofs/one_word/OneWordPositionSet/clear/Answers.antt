use Rattle.matcher.proofs.OneWords.{one_none}
use Rattle.matcher.proofs.one_word.OneWordPositionSet.clear.Goals as goal

pub returns-clause-none : goal.returns-clause-none
returns-clause-none c = one_none

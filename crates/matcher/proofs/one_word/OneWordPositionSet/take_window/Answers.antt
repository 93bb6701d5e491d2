use Rattle.matcher.proofs.OneWords.{one_taken}
use Rattle.matcher.proofs.one_word.OneWordPositionSet.take_window.Goals as goal

pub returns : goal.returns
returns c = rw (← c.self.view_is) (one_taken c.self.inside.word)

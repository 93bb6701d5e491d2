use Rattle.views.proofs.OneAnswer.{one_answer}
use Rattle.views.proofs.laws.one_answer.Goals as goal

pub returns : goal.returns
returns c = one_answer

use Rattle.views.proofs.OneAnswer.{one_shown}
use Rattle.views.proofs.laws.one_shown.Goals as goal

pub returns : goal.returns
returns c = one_shown c.one_list_of_spans.ensures
